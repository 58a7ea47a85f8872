-- Heights: how many operands the stack has before and after each instruction, in text order.
use Rattle.std.specs.Prelude.{ℕ, ◌+◌, ◌-◌, max, List, [], ◌∷◌}
use Rattle.code_form.specs.declared.effect.Effect.{Effect}
use Rattle.code_form.specs.declared.effect.Effect.TheVariants.{Changes, CallsOwn, CallsImport, GivesResult}
use Rattle.code_form.specs.Instructions.{Instr, line_of}

-- what a procedure's call takes and leaves: the cells of its parameters, and its result
pub record Callee : Type 0 where
  pub params : ℕ
  pub result : ℕ

-- what the calls in a code can reach, and the result of the procedure that has the code
pub record Callees : Type 0 where
  pub own : ℕ → Callee
  pub imported : ℕ → ℕ → Callee
  pub result : ℕ

-- an instruction with what it takes and leaves
pub record Step : Type 0 where
  pub instr : Instr
  pub takes : ℕ
  pub leaves : ℕ

abbrev pub step_by : Callees → Instr → Effect → Step
step_by callees i (Changes takes leaves) = record { instr = i; takes = takes; leaves = leaves }
step_by callees i (CallsOwn p) =
    record { instr = i; takes = (callees.own p).params; leaves = (callees.own p).result }
step_by callees i (CallsImport m k) =
    record { instr = i; takes = (callees.imported m k).params; leaves = (callees.imported m k).result }
step_by callees i GivesResult = record { instr = i; takes = callees.result; leaves = 0 }

-- an instruction among these callees
abbrev pub step_among : Callees → Instr → Step
step_among callees i = step_by callees i (line_of i).effect

-- the height after a step at height h, and after steps
abbrev pub after_step : ℕ → Step → ℕ
after_step h s = h - s.takes + s.leaves

abbrev pub height_after : ℕ → List Step → ℕ
height_after h [] = h
height_after h (s ∷ ss) = height_after (after_step h s) ss

-- the greatest height of steps that begin at height h
abbrev pub greatest : ℕ → List Step → ℕ
greatest h [] = h
greatest h (s ∷ ss) = max h (greatest (after_step h s) ss)
