use Rattle.std.proofs.Common.{◌≡◌, drop}
use Rattle.def_import.specs.Dependencies.{AreStruck, first_free, items_of}
use Rattle.def_import.proofs.dependencies.first_free.Given as goal

abbrev pub invariant-loop-text : goal.invariant-loop-text
invariant-loop-text l = record {
  struck : AreStruck l.taken (items_of l.initial.all) (items_of l.all);
  none : first_free l.taken 1 (drop 1 (items_of l.initial.all)) ≡ first_free l.taken l.text (drop l.text (items_of l.all));
}
