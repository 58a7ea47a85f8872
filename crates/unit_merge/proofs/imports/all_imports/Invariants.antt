use Rattle.std.proofs.Common.{◌≡◌, ◌++◌, drop, map, take}
use Rattle.m2_base.specs.Lists.{Each}
use Rattle.object_file.specs.Views.{keyed_of}
use Rattle.unit_merge.specs.Objects.{HasItsNumber, imports_from}
use Rattle.unit_merge.proofs.imports.all_imports.Given as goal

abbrev pub invariant-loop-place : goal.invariant-loop-place
invariant-loop-place l = record {
  imports : map keyed_of l.imports.items ++ imports_from l.names (drop l.place l.keys) (drop l.place l.outputs) ≡ imports_from l.names l.keys l.outputs;
  numbers : Each (λ k. HasItsNumber l.names k.0) (take l.place l.keys);
}
