use Rattle.std.proofs.Common.{◌≡◌, ◌+◌, ◌++◌, drop}
use Rattle.stack_machine.specs.Loading.{cells_of, variables_from}
use Rattle.stack_machine.proofs.layout.variables.Given as goal

abbrev pub invariant-loop-object : goal.invariant-loop-object
invariant-loop-object l = record {
  so_far : l.at + cells_of (drop l.object-index l.objects) ≡ l.first + cells_of l.objects;
  all_are : l.all.items ++ variables_from l.at (drop l.object-index l.objects) ≡ variables_from l.first l.objects;
}
