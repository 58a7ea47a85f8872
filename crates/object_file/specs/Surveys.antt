-- What a walk over a code keeps of it.
use Rattle.std.specs.Prelude.{◌≡◌, ℕ, pos, List, Result, Ok, Err}
use Rattle.code_form.specs.declared.instr.Instr.{Instr}
use Rattle.code_form.specs.Modules.{Procedure, World}
use Rattle.code_form.specs.Valid.{AreInstrs, StopsAt, callees_of, points, highest, first_not}
use Rattle.object_file.specs.declared.survey.Survey.{Survey}
use Rattle.object_file.specs.declared.fault.CodeFault.{CodeFault}
use Rattle.object_file.specs.declared.fault.CodeFault.TheVariants as faults
use Rattle.object_file.specs.Firsts.{is_named, is_stocked, AreJumpsFrom}
use Rattle.object_file.specs.Points.{AreMarks, OfPoints}

-- the code of procedure k is instructions, and this is kept of them
pub record IsSurvey (w : World) (k : ℕ) (p : Procedure) (s : Survey) : Type 0 where
  pub is : List Instr
  pub instrs_are : AreInstrs p.code is
  pub highest_is : s.highest ≡ highest (pos 0) (points (callees_of w p) 0 (pos 0) is)
  pub marks_are : AreMarks w p s.marks.items
  pub wrong_is : OfPoints w p (λ all. s.found.wrong ≡ first_not (is_named w k p) all)
  pub low_is : OfPoints w p (λ all. s.found.low ≡ first_not is_stocked all)
  pub jumps_are : AreJumpsFrom w p s.jumps.at s.jumps.height

-- what a walk over the code of procedure k answers
abbrev pub Surveys : World → (k : ℕ) → Procedure → Result Survey CodeFault → Type 0
Surveys w k p (Ok s) = IsSurvey w k p s
Surveys w k p (Err faults.Memory) = Unit {0}
Surveys w k p (Err (faults.InCode at code)) = StopsAt p.code at × (code ≡ 5)
Surveys w k p (Err faults.OfHigh) = ⊥
