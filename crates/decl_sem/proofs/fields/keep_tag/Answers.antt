use Rattle.decl_sem.proofs.Checks.{unnoted_piece}
use Rattle.decl_sem.proofs.Tags.{tag_given, tag_kept, tag_refused}
use Rattle.decl_sem.proofs.fields.keep_tag.Goals as goal

pub returns-in-Err : goal.returns-in-Err
returns-in-Err c a making there = unnoted_piece a c.args.made.now c.args.site.now c.in-Err.memory (tag_given c.args.at c.args.of c.args.wrong) making c.refuse.ensures.answers c.refuse.ensures.diags

pub returns-then-wrong : goal.returns-then-wrong
returns-then-wrong c a making there = tag_refused a c.args.made.now c.args.site.now c.args.at c.args.wrong c.args.of c.if-wrong.true making c.in-Ok.ensures.noted c.refuse.ensures.answers c.refuse.ensures.diags

pub returns : goal.returns
returns c a making there = tag_kept a c.args.made.now c.args.site.now c.args.at c.args.wrong c.args.of c.if-wrong.false there
