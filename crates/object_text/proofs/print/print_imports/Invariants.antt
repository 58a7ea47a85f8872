use Rattle.std.proofs.Common.{◌≤◌, map, drop}
use Rattle.object_file.specs.Views.{import_of}
use Rattle.object_text.specs.Text.{import_lines}
use Rattle.object_text.proofs.Shown.{Shown}
use Rattle.object_text.proofs.print.print_imports.Given as goal

abbrev pub invariant-loop-note : goal.invariant-loop-note
invariant-loop-note g l = record {
  shown : Shown (g.P.Sink.written l.fn.print) (g.P.Sink.written l.print) (import_lines (map import_of l.notes)) (import_lines (map import_of (drop l.note-index l.notes)));
  later : g.P.Sink.faults l.fn.print ≤ g.P.Sink.faults l.print;
}
