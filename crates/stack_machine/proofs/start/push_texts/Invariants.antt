use Rattle.std.proofs.Common.{◌≡◌, ◌++◌, drop, map}
use Rattle.object_file.specs.Views.{procedure_of}
use Rattle.stack_machine.specs.Loading.{data_cells}
use Rattle.stack_machine.proofs.start.push_texts.Given as goal

abbrev pub invariant-loop-procedure : goal.invariant-loop-procedure
invariant-loop-procedure l = l.cells.items ++ data_cells (map procedure_of (drop l.procedure-index l.procedures)) ≡ l.fn.cells.items ++ data_cells (map procedure_of l.procedures)
