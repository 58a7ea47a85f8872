use Rattle.std.proofs.Common.{◌≡◌, ◌≤◌, ◌+◌, drop}
use Rattle.stack_machine.specs.Loading.{data_of}
use Rattle.stack_machine.proofs.layout.with_data.Given as goal

abbrev pub invariant-loop-object : goal.invariant-loop-object
invariant-loop-object l = record {
  so_far : l.sum + data_of (drop l.object-index l.objects) ≡ l.taken + data_of l.objects;
  room : l.sum ≤ l.room;
}
