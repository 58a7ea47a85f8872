use Rattle.decl_sem.proofs.Checks.{unnoted_piece}
use Rattle.decl_sem.proofs.Results.{scalar, scalar_given, structured}
use Rattle.decl_sem.proofs.outcomes.scalar_or_refuse.Goals as goal

pub returns-in-Err : goal.returns-in-Err
returns-in-Err c a making behind = unnoted_piece a c.args.made.now c.args.site.now c.in-Err.memory (scalar_given c.args.at c.args.of c.args.structured) making c.refuse.ensures.answers c.refuse.ensures.diags

pub returns-then-structured : goal.returns-then-structured
returns-then-structured c a making behind = structured a c.args.made.now c.args.site.now c.args.at c.args.structured c.args.of c.if-structured.true making c.in-Ok.ensures.noted c.refuse.ensures.answers c.refuse.ensures.diags

pub returns : goal.returns
returns c a making behind = scalar a c.args.made.now c.args.site.now c.args.at c.args.structured c.args.of c.if-structured.false behind
