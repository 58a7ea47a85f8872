use Rattle.std.proofs.Common.{◌≡◌, ◌++◌, map, take}
use Rattle.std.specs.List.{flat_map}
use Rattle.object_file.specs.Contents.{import_bytes}
use Rattle.object_file.specs.Views.{keyed_of}
use Rattle.object_file.proofs.writing.imports.Given as goal

abbrev pub invariant-loop-one : goal.invariant-loop-one
invariant-loop-one l = l.out.items ≡ l.fn.out.items ++ flat_map import_bytes (map keyed_of (take l.one-index l.all))
