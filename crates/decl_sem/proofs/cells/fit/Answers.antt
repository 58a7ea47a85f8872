use Rattle.decl_sem.proofs.ArrayCells.{fits, too_large}
use Rattle.decl_sem.proofs.Checks.{unnoted_piece}
use Rattle.decl_sem.proofs.cells.fit.Goals as goal

pub returns-then-size-lt-TOO_MANY_CELLS : goal.returns-then-size-lt-TOO_MANY_CELLS
returns-then-size-lt-TOO_MANY_CELLS c a making behind = fits a c.args.made.now c.args.site.now c.args.at c.args.size c.args.of c.if-size-lt-TOO_MANY_CELLS.true behind

pub returns-in-Err : goal.returns-in-Err
returns-in-Err c a making behind = unnoted_piece a c.args.made.now c.args.site.now c.in-Err.memory _ making c.refuse.ensures.answers c.refuse.ensures.diags

pub returns : goal.returns
returns c a making behind = too_large a c.args.made.now c.args.site.now c.args.at c.args.size c.args.of c.if-size-lt-TOO_MANY_CELLS.false making c.in-Ok.ensures.noted c.refuse.ensures.answers c.refuse.ensures.diags
