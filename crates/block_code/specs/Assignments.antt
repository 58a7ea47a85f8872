-- The code of an assignment: of a string so many cells as both sides have, of an array or a record all its cells, of
-- anything else the value, fitted to the variable's type. What is in error has no code.
use Rattle.std.specs.Prelude.{ℕ, ◌+◌, List, [], ◌∷◌, length, min, if◌then◌else◌}
use Rattle.m2_base.specs.Gives.{Gives, gives, and_then}
use Rattle.m2_base.specs.declared.rows.Place.{Place}
use Rattle.m2_base.specs.Statics.Contexts.{Context}
use Rattle.m2_base.specs.Statics.Diagnostics.{not_assignable}
use Rattle.m2_base.specs.Statics.Operands.{is_bad, operand_type}
use Rattle.m2_base.specs.Statics.Types.{size_of}
use Rattle.m2_base.specs.declared.operands.Operand.TheVariants.{InError, StringConstant}
use Rattle.m2_base.specs.declared.operands.Operand.{Operand}
use Rattle.code_form.specs.declared.instr.Instr.TheVariants.{Move, Store}
use Rattle.block_code.specs.Coded.{Coded, characters, is_structured, value_code}
use Rattle.block_code.specs.Fitting.{fitted_code}
use Rattle.block_code.specs.Parts.{Part, none, plain, text, ◌⨟◌}
use Rattle.block_code.specs.Values.{assigned_to}

-- a string to the array of this type whose address this code gives
abbrev pub store_text : Context → Place → Part → List ℕ → Part
store_text c t to chars =
    to ⨟ text chars ⨟ plain (Move (min (length chars + 1) (size_of c.scene t)) ∷ [])

-- a value to the variable of this type whose address this code gives
abbrev pub store_value : Context → Place → Part → Coded → Part
store_value c t to x =
    if is_structured c.scene t then (to ⨟ value_code c x ⨟ plain (Move (size_of c.scene t) ∷ []))
    else (to ⨟ fitted_code c t x ⨟ plain (Store ∷ []))

-- by its operand, what a variable of this type takes
abbrev pub store_by : Context → Place → Part → Coded → Operand → Part
store_by c t to x InError = none
store_by c t to x (StringConstant n l) = store_text c t to (characters c.source n)
store_by c t to x other = store_value c t to x

-- a value to a variable
abbrev pub store_code : Context → (to : Coded) → Coded → Part
store_code c to x = store_by c (operand_type to.operand) to.code x x.operand

-- an assignment to a variable; `at` is the value's first token
abbrev pub assignment : Context → (to : Coded) → (at : ℕ) → Coded → Gives Part
assignment c to at x =
    if is_bad to.operand then gives none else
    and_then (assigned_to c (operand_type to.operand) at not_assignable x) (λ v. gives (store_code c to v))

-- a call as a statement, unless it is in error
abbrev pub code_unless_bad : Coded → Part
code_unless_bad x = if is_bad x.operand then none else x.code
