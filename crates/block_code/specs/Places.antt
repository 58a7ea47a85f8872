-- Steps at their places, as the conditions of valid code look at them.
use Rattle.std.specs.Prelude.{◌≡◌, ℕ, Bool, true, false, List, [], ◌∷◌, map, None}
use Rattle.m2_base.specs.declared.rows.Row.{Row}
use Rattle.m2_base.specs.Statics.BlockRows.{declare_block}
use Rattle.m2_base.specs.Statics.Blocks.{BlockTree}
use Rattle.m2_base.specs.Statics.Contexts.{Source}
use Rattle.m2_base.specs.Statics.UnitNotes.{complete_context}
use Rattle.block_code.specs.Heights.{needs_callee}
use Rattle.block_code.specs.BlockCode.{body_of, run_of}
use Rattle.code_form.specs.Heights.{Callees, Step, step_among}
use Rattle.code_form.specs.declared.instr.Instr.{Instr}
use Rattle.code_form.specs.declared.instr.Instr.TheVariants.{Call, CallX}
use Rattle.code_form.specs.Instructions.{IsInstr}
use Rattle.code_form.specs.Modules.{Procedure, World}
use Rattle.code_form.specs.Valid.{jump_of, names_what_is_there}

-- the instructions of steps
abbrev pub instrs_of : List Step → List Instr
instrs_of ss = map (λ s. s.instr) ss

-- each call and each return takes and leaves what is told of these callees
abbrev pub CallsAgree : Callees → List Step → Type 0
CallsAgree c [] = Unit {0}
CallsAgree c (s ∷ ss) = (needs_callee s.instr ≡ true → step_among c s.instr ≡ s) × CallsAgree c ss

-- the instruction calls a procedure by its number
abbrev pub calls_procedure : Instr → Bool
calls_procedure (Call p h) = true
calls_procedure (CallX m k) = true
calls_procedure i = false

-- each call of a procedure by its number takes and leaves what is told of these callees
abbrev pub ProceduresAgree : Callees → List Step → Type 0
ProceduresAgree c [] = Unit {0}
ProceduresAgree c (s ∷ ss) = (calls_procedure s.instr ≡ true → step_among c s.instr ≡ s) × ProceduresAgree c ss

-- each instruction that doesn't jump has its operands in their ranges
abbrev pub OthersInRange : List Step → Type 0
OthersInRange [] = Unit {0}
OthersInRange (s ∷ ss) = (jump_of s.instr ≡ None → IsInstr s.instr) × OthersInRange ss

-- each instruction names what is there
abbrev pub NameThere : World → (k : ℕ) → Procedure → List Step → Type 0
NameThere w k p [] = Unit {0}
NameThere w k p (s ∷ ss) = (names_what_is_there w k p s.instr ≡ true) × NameThere w k p ss

-- the steps of a block's code
abbrev pub block_steps : Source → (before all : List (List Row)) → BlockTree → List Step
block_steps source before all b =
    (run_of b (declare_block source before b).value (body_of (complete_context source all b.block) b).value).code 0
