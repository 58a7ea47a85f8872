use Rattle.std.proofs.Common.{◌≤◌, ◌-◌, List, length, drop}
use Rattle.code_form.specs.declared.instr.Instr.{Instr}
use Rattle.code_form.specs.Valid.{AreInstrs}
use Rattle.object_text.specs.Text.{instr_lines}
use Rattle.object_text.proofs.Shown.{Shown}
use Rattle.object_text.proofs.print.print_instrs.Given as goal

abbrev pub invariant-loop-at : goal.invariant-loop-at
invariant-loop-at g l = record {
  within : l.at ≤ length l.code;
  shown : (is : List Instr) → AreInstrs l.code is → (rest : List Instr) × AreInstrs (drop l.at l.code) rest × Shown (g.P.Sink.written l.fn.print) (g.P.Sink.written l.print) (instr_lines 0 is) (instr_lines l.at rest);
  later : g.P.Sink.faults l.fn.print ≤ g.P.Sink.faults l.print;
}

abbrev pub decreases-loop-at : goal.decreases-loop-at
decreases-loop-at g l = length l.code - l.at
