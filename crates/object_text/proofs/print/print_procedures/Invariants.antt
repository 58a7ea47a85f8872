use Rattle.std.proofs.Common.{◌≤◌, ℕ, List, map, drop}
use Rattle.object_file.specs.Views.{procedure_of}
use Rattle.object_text.specs.Text.{AreLines}
use Rattle.object_text.proofs.Shown.{Shown}
use Rattle.object_text.proofs.print.print_procedures.Given as goal

abbrev pub invariant-loop-k : goal.invariant-loop-k
invariant-loop-k g l = record {
  shown : (text : List ℕ) → AreLines 0 (map procedure_of l.procedures) text → (rest : List ℕ) × AreLines l.k (map procedure_of (drop l.k l.procedures)) rest × Shown (g.P.Sink.written l.fn.print) (g.P.Sink.written l.print) text rest;
  later : g.P.Sink.faults l.fn.print ≤ g.P.Sink.faults l.print;
}
