use Rattle.std.proofs.Common.{◌≡◌, ◌≤◌, ◌+◌, drop, map}
use Rattle.object_file.specs.Views.{procedure_of}
use Rattle.stack_machine.specs.Loading.{data_in}
use Rattle.stack_machine.proofs.layout.with_texts.Given as goal

abbrev pub invariant-loop-procedure : goal.invariant-loop-procedure
invariant-loop-procedure l = record {
  so_far : l.sum + data_in (map procedure_of (drop l.procedure-index l.procedures)) ≡ l.taken + data_in (map procedure_of l.procedures);
  room : l.sum ≤ l.room;
}
