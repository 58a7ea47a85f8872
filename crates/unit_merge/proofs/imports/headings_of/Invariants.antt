use Rattle.std.proofs.Common.{◌≡◌, map, take}
use Rattle.object_file.specs.Views.{heading_of}
use Rattle.unit_merge.specs.Objects.{callee_of}
use Rattle.unit_merge.proofs.imports.headings_of.Given as goal

abbrev pub invariant-loop-note : goal.invariant-loop-note
invariant-loop-note l = map heading_of l.headings.items ≡ map callee_of (take l.note-index l.notes)
