use Rattle.std.proofs.Common.{◌≡◌, ℕ, List, take, drop}
use Rattle.std.specs.Cmp.Lexicographic.{slice_cmp}
use Rattle.std.specs.Ordering.{nat_cmp}
use Rattle.std.specs.BTreeMap.{get_by}
use Rattle.object_file.specs.Naming.{object_named, taken_again, name_again}
use Rattle.object_file.proofs.directory.Directory.of.Given as goal

abbrev pub invariant-loop-k : goal.invariant-loop-k
invariant-loop-k l = record {
  kept : (name : List ℕ) → get_by (λ key. slice_cmp nat_cmp name key.now) l.places ≡ object_named (take l.k l.objects) name;
  names : name_again l.objects ≡ taken_again (take l.k l.objects) (drop l.k l.objects);
}
