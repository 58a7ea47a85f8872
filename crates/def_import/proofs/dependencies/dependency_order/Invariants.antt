use Rattle.std.proofs.Common.{◌≡◌}
use Rattle.def_import.specs.Dependencies.{AreStruck, all_needs, items_of, taken_in}
use Rattle.def_import.proofs.dependencies.dependency_order.Given as goal

abbrev pub invariant-loop : goal.invariant-loop
invariant-loop l = record {
  order : l.taken.items ≡ taken_in l.progress l.counter;
  struck : AreStruck l.taken.items (all_needs l.progress l.progress.found) (items_of l.all.items);
}
