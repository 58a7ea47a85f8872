use Rattle.object_file.proofs.Joined.{order_numbers, order_differs}
use Rattle.object_file.proofs.program.order_of.Goals as goal

pub returns-in_ok-running_order-in-Ok-clause-numbers : goal.returns-in_ok-running_order-in-Ok-clause-numbers
returns-in_ok-running_order-in-Ok-clause-numbers c = order_numbers c.args.objects.now c.in_ok-running_order-in-Ok.field-0.items c.requires c.in_ok-running_order-in-Ok.ensures

pub returns-in_ok-running_order-in-Ok-clause-differ : goal.returns-in_ok-running_order-in-Ok-clause-differ
returns-in_ok-running_order-in-Ok-clause-differ c = order_differs c.args.objects.now c.in_ok-running_order-in-Ok.field-0.items c.in_ok-running_order-in-Ok.ensures
