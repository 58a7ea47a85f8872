use Rattle.decl_sem.proofs.Checks.{kept, refused_piece, unnoted_piece}
use Rattle.decl_sem.proofs.sets.keep_or_refuse.Goals as goal

pub returns-then-keep : goal.returns-then-keep
returns-then-keep c a making behind = kept a c.args.made.now c.args.site.now c.args.at c.args.keep c.args.of c.if-keep.true behind

pub returns-in-Err : goal.returns-in-Err
returns-in-Err c a making behind = unnoted_piece a c.args.made.now c.args.site.now c.in-Err.memory _ making c.refuse.ensures.answers c.refuse.ensures.diags

pub returns : goal.returns
returns c a making behind = refused_piece a c.args.made.now c.args.site.now c.args.at c.args.keep c.args.of c.if-keep.false making c.in-Ok.ensures.noted c.refuse.ensures.answers c.refuse.ensures.diags
