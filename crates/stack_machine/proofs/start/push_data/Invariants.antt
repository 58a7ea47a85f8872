use Rattle.std.proofs.Common.{◌≡◌, ◌++◌, drop}
use Rattle.stack_machine.specs.Loading.{all_data}
use Rattle.stack_machine.proofs.start.push_data.Given as goal

abbrev pub invariant-loop-object : goal.invariant-loop-object
invariant-loop-object l = l.cells.items ++ all_data (drop l.object-index l.objects) ≡ l.fn.cells.items ++ all_data l.objects
