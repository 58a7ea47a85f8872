use Rattle.std.proofs.Common.{[]}
use Rattle.stack_machine.proofs.Pushing.{none_asked, pushed_all, pushed_more}
use Rattle.stack_machine.proofs.owners.owners.Goals as goal

pub loop-import-preserved : goal.loop-import-preserved
loop-import-preserved c = pushed_more _ _ [] _ c.loop-import.import-index c.import-item.result _ c.loop-import-test.true c.import-item.is c.loop-import.invariant c.in_ok-push.ensures.items c.owner_of.ensures

pub returns : goal.returns
returns c = pushed_all _ _ [] _ c.loop-import.import-index c.loop-import-test.false c.loop-import.invariant

pub returns-in_err-push : goal.returns-in_err-push
returns-in_err-push c = none_asked c.from_residual.result _ c.from_residual.ensures.0
