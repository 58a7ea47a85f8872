use Rattle.std.proofs.Common.{◌≡◌, ◌++◌, map, take}
use Rattle.std.specs.List.{flat_map}
use Rattle.object_file.specs.Contents.{heading_bytes}
use Rattle.object_file.specs.Views.{heading_of}
use Rattle.object_file.proofs.writing.headings.Given as goal

abbrev pub invariant-loop-one : goal.invariant-loop-one
invariant-loop-one l = l.out.items ≡ l.fn.out.items ++ flat_map heading_bytes (map heading_of (take l.one-index l.all))
