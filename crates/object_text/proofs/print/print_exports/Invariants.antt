use Rattle.std.proofs.Common.{◌≤◌, drop}
use Rattle.object_text.specs.Text.{export_lines}
use Rattle.object_text.proofs.Shown.{Shown}
use Rattle.object_text.proofs.print.print_exports.Given as goal

abbrev pub invariant-loop-k : goal.invariant-loop-k
invariant-loop-k g l = record {
  shown : Shown (g.P.Sink.written l.fn.print) (g.P.Sink.written l.print) (export_lines 0 l.exports) (export_lines l.k (drop l.k l.exports));
  later : g.P.Sink.faults l.fn.print ≤ g.P.Sink.faults l.print;
}
