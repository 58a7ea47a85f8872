use Rattle.std.proofs.Common.{◌≡◌, ◌≤◌, ◌+◌, drop}
use Rattle.stack_machine.specs.Loading.{cells_of}
use Rattle.stack_machine.proofs.layout.with_variables.Given as goal

abbrev pub invariant-loop-object : goal.invariant-loop-object
invariant-loop-object l = record {
  so_far : l.sum + cells_of (drop l.object-index l.objects) ≡ l.taken + cells_of l.objects;
  room : l.sum ≤ l.room;
}
