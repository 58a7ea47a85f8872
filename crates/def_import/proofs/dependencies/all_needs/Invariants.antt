use Rattle.std.proofs.Common.{◌≡◌, take}
use Rattle.def_import.specs.Dependencies.{all_needs, items_of}
use Rattle.def_import.proofs.dependencies.all_needs.Given as goal

abbrev pub invariant-loop-found : goal.invariant-loop-found
invariant-loop-found l = items_of l.all.items ≡ all_needs l.progress (take l.found-index l.progress.found)
