-- How a variable is changed by what stands on top of its value.
use Rattle.std.specs.Prelude.{List, [], ◌∷◌}
use Rattle.code_form.specs.declared.instr.Instr.{Instr}
use Rattle.code_form.specs.declared.instr.Instr.TheVariants.{Load, Store, Dup}
use Rattle.block_code.specs.Parts.{Part, plain, ◌⨟◌}
use Rattle.expr_sem.specs.RangeChecks.{instrs_if}
use Rattle.expr_sem.specs.declared.updates.Change.{Change}

-- the instructions of a change
abbrev pub instrs_of : Change → List Instr
instrs_of change = change.first ∷ instrs_if change.second

-- the code of a variable, changed by a number
abbrev pub updated_by : (variable number : Part) → List Instr → Part
updated_by variable number instrs = variable ⨟ plain (Dup ∷ Load ∷ []) ⨟ number ⨟ plain instrs ⨟ plain (Store ∷ [])
