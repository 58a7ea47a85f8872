use Rattle.stack_machine.proofs.Pushing.{not_ok, pushed_all, pushed_more}
use Rattle.stack_machine.proofs.loading.push_ops.Goals as goal

pub loop-from-preserved : goal.loop-from-preserved
loop-from-preserved c = pushed_more _ _ c.args.ops.now.items _ c.loop-from.from-index c.from-item.result _ c.loop-from-test.true c.from-item.is c.loop-from.invariant c.in_ok-push.ensures.items c.op_of.ensures

pub returns : goal.returns
returns c = pushed_all _ _ c.args.ops.now.items _ c.loop-from.from-index c.loop-from-test.false c.loop-from.invariant

pub returns-in_err-push : goal.returns-in_err-push
returns-in_err-push c = not_ok c.from_residual.result _ c.from_residual.ensures.0
