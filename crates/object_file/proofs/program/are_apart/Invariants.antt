use Rattle.std.proofs.Common.{drop, map}
use Rattle.std.specs.List.{AllByRecursion}
use Rattle.object_file.specs.Programs.{IsApart}
use Rattle.object_file.specs.Views.{import_of}
use Rattle.object_file.proofs.program.are_apart.Given as goal

abbrev pub invariant-loop-note : goal.invariant-loop-note
invariant-loop-note l =
    record {
      all : AllByRecursion IsApart (map import_of (drop l.note-index l.notes)) → AllByRecursion IsApart (map import_of l.notes);
      rest : AllByRecursion IsApart (map import_of l.notes) → AllByRecursion IsApart (map import_of (drop l.note-index l.notes));
    }
