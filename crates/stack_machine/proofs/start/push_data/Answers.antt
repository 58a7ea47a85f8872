use Rattle.std.proofs.Common.{refl}
use Rattle.stack_machine.specs.Loading.{all_data}
use Rattle.stack_machine.proofs.Pushing.{not_ok, part_all, part_more}
use Rattle.stack_machine.proofs.start.push_data.Goals as goal

pub returns-in_err-push_object : goal.returns-in_err-push_object
returns-in_err-push_object c = not_ok c.from_residual.result _ c.from_residual.ensures.0

pub loop-object-preserved : goal.loop-object-preserved
loop-object-preserved c =
    part_more all_data c.args.objects.now c.loop-object.object-index c.object-item.result c.loop-object.cells.items c.push_object.new.cells.items _ _ c.loop-object-test.true c.object-item.is refl c.loop-object.invariant c.in_ok-push_object.ensures

pub returns : goal.returns
returns c = part_all all_data c.args.objects.now c.loop-object.object-index c.loop-object.cells.items _ refl c.loop-object-test.false c.loop-object.invariant
