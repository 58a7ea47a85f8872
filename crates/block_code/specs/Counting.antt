-- The code of FOR. Its variable is an ordinal variable of this block itself, no parameter by address and no field. The
-- first value is assigned to it; the last value goes to a temporary cell. The step is a number other than 0, 1 without
-- BY. After each turn it is added only where the last value lies further on.
use Rattle.std.specs.Prelude.{ℕ, zero, ◌==◌, ◌&&◌, not, Bool, true, false, ℤ, pos, negsuc, List, [], ◌∷◌}
use Rattle.std.specs.Prelude.{if◌then◌else◌, Option, Some, None, is_some}
use Rattle.m2_base.specs.Gives.{Gives, gives, and_then}
use Rattle.m2_base.specs.Rows.{row_meaning}
use Rattle.m2_base.specs.declared.rows.Mode.{Mode}
use Rattle.m2_base.specs.declared.rows.Mode.TheVariants.{Plain}
use Rattle.m2_base.specs.declared.rows.Place.{Place}
use Rattle.m2_base.specs.declared.rows.RowMeaning.{RowMeaning}
use Rattle.m2_base.specs.declared.rows.RowMeaning.TheVariants.{Var}
use Rattle.m2_base.specs.declared.trees.Ident.{Ident}
use Rattle.m2_base.specs.Statics.Compatible.{is_number_type}
use Rattle.m2_base.specs.Statics.Contexts.{Context, Scene, refuse}
use Rattle.m2_base.specs.Statics.Diagnostics.{not_a_control_variable, not_a_variable, not_assignable, out_of_range}
use Rattle.m2_base.specs.Statics.Diagnostics.{wrong_operands}
use Rattle.m2_base.specs.Statics.Lookup.{Entry}
use Rattle.m2_base.specs.Statics.Operands.{is_bad, operand_type}
use Rattle.m2_base.specs.Statics.Types.{base_of, range_of}
use Rattle.m2_base.specs.Statics.Uses.{use_of}
use Rattle.m2_base.specs.declared.operands.Operand.TheVariants.{Constant, InError, Variable}
use Rattle.m2_base.specs.declared.operands.Operand.{Operand}
use Rattle.code_form.specs.declared.instr.Instr.{Instr}
use Rattle.code_form.specs.declared.instr.Instr.TheVariants.{Add, Dup, Ge, Le, Load, Local, More, Push, Store}
use Rattle.block_code.specs.Coded.{Coded, in_error}
use Rattle.block_code.specs.Fitting.{fitted_code}
use Rattle.block_code.specs.Operators.{side_of}
use Rattle.block_code.specs.Parts.{Part, none, plain, ◌⨟◌}
use Rattle.block_code.specs.RecordFields.{with_field}
use Rattle.block_code.specs.Values.{assigned_to}
use Rattle.block_code.specs.Variables.{entry_coded}
use Rattle.block_code.specs.Assignments.{store_code}

-- ---- the variable

-- its cell holds the variable itself
abbrev pub is_plain : Mode → Bool
is_plain Plain = true
is_plain other = false

-- an ordinal variable of this block itself whose cell holds it
abbrev pub can_control : Scene → (scope : ℕ) → RowMeaning → Bool
can_control scene s (Var t mode o) = (s == scene.block.scope) && is_plain mode && is_some (range_of scene t)
can_control scene s other = false

-- by its operand, the variable of a FOR that is bound to this entry
abbrev pub controls_by : Context → (at : ℕ) → Entry → Coded → Operand → Gives Coded
controls_by c at e x InError = gives in_error
controls_by c at e x (Variable t) =
    if can_control c.scene e.0.scope (row_meaning e.1) then gives x else refuse c at not_a_control_variable in_error
controls_by c at e x other = refuse c at not_a_variable in_error

-- the variable of a FOR, with what stands for it
abbrev pub controls_with : Context → (at : ℕ) → Entry → Coded → Gives Coded
controls_with c at e x = controls_by c at e x x.operand

-- the variable of a FOR that its name is bound to
abbrev pub controls : Context → (at : ℕ) → Option Entry → Gives Coded
controls c at None = gives in_error
controls c at (Some e) = controls_with c at e (entry_coded c (Some e))

-- the variable of a FOR; a field of an open WITH is none
abbrev pub control_variable : Context → (withs : List Place) → Ident → Gives Coded
control_variable c withs i =
    if is_some (with_field c.scene 0 withs i.name) then refuse c i.at not_a_control_variable in_error
    else and_then (use_of c None i.name i.at) (controls c i.at)

-- ---- its values

-- the first or the last value, which is assignable to the variable; `at` is its first token
abbrev pub bound_value : Context → (variable : Coded) → (at : ℕ) → Coded → Gives Coded
bound_value c x at v =
    if is_bad x.operand then gives in_error else assigned_to c (operand_type x.operand) at not_assignable v

-- 0
abbrev pub is_zero : ℤ → Bool
is_zero (pos zero) = true
is_zero other = false

-- BY is a number other than 0; `at` is its first token
abbrev pub by_constant : Context → (at : ℕ) → Option Operand → Gives (Option ℤ)
by_constant c at None = gives None
by_constant c at (Some (Constant t v)) =
    if not (is_number_type (base_of c.scene t)) then refuse c at wrong_operands None else
    if is_zero v then refuse c at out_of_range None else gives (Some v)
by_constant c at (Some other) = refuse c at wrong_operands None

-- the step, 1 where there is none or it is in error
abbrev pub or_one : Option ℤ → ℤ
or_one None = pos 1
or_one (Some v) = v

-- ---- the code; `t` is the temporary cell that has the last value

-- what isn't in error has code
abbrev pub has_code : Coded → Bool
has_code x = not (is_bad x.operand)

-- the first value goes to the variable
abbrev pub for_first : Context → (variable first : Coded) → Part
for_first c x first = if has_code x && has_code first then store_code c x first else none

-- the last value goes to its cell
abbrev pub for_last : Context → (t : ℕ) → (variable last : Coded) → Part
for_last c t x last =
    if has_code x && has_code last
    then (plain (Local 0 t ∷ []) ⨟ fitted_code c (operand_type x.operand) last ⨟ plain (Store ∷ []))
    else none

-- a step upwards ends behind the last value, one downwards before it
abbrev pub comparison : (by : ℤ) → Instr
comparison (pos n) = Le
comparison (negsuc n) = Ge

-- whether the variable isn't past the last value
abbrev pub for_test : (t : ℕ) → (variable : Coded) → (by : ℤ) → Part
for_test t x by = x.code ⨟ plain (Load ∷ Local 0 t ∷ Load ∷ comparison by ∷ [])

-- whether a step leads to the last value at most
abbrev pub for_more : (t : ℕ) → (variable : Coded) → (by : ℤ) → Part
for_more t x by = x.code ⨟ plain (Load ∷ Local 0 t ∷ Load ∷ More by ∷ [])

-- a step of the variable
abbrev pub for_step : Scene → (variable : Coded) → (by : ℤ) → Part
for_step scene x by =
    x.code ⨟ plain (Dup ∷ Load ∷ Push by ∷ Add (side_of scene (operand_type x.operand)) ∷ Store ∷ [])
