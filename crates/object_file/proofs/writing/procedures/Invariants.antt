use Rattle.std.proofs.Common.{◌≡◌, ◌++◌, map, take}
use Rattle.std.specs.List.{flat_map}
use Rattle.object_file.specs.Contents.{procedure_bytes}
use Rattle.object_file.specs.Views.{procedure_of}
use Rattle.object_file.proofs.writing.procedures.Given as goal

abbrev pub invariant-loop-one : goal.invariant-loop-one
invariant-loop-one l = l.out.items ≡ l.fn.out.items ++ flat_map procedure_bytes (map procedure_of (take l.one-index l.all))
