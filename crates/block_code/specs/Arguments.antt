-- The code of arguments beside their parameters. A value parameter takes a value that is assignable to it, a VAR
-- parameter the address of a variable of the same type. An open array takes the address of an array of the same
-- element type, and the number of its elements less 1. An array or a record by value is its address; of a string it is
-- the address of temporary cells with a copy.
use Rattle.std.specs.Prelude.{ℕ, ◌+◌, ◌-◌, ◌&&◌, ◌||◌, not, Bool, true, false, pos, List, [], ◌∷◌, length, min}
use Rattle.std.specs.Prelude.{if◌then◌else◌, Option, Some, None}
use Rattle.m2_base.specs.Gives.{Gives, gives, and_then}
use Rattle.m2_base.specs.declared.rows.Place.{Place}
use Rattle.m2_base.specs.declared.rows.RowMeaning.{RowMeaning}
use Rattle.m2_base.specs.declared.rows.RowMeaning.TheVariants.{Array, OpenArray}
use Rattle.m2_base.specs.Standard.{broken, character}
use Rattle.m2_base.specs.Statics.Assignable.{is_open_array}
use Rattle.m2_base.specs.Statics.Contexts.{Context, refuse}
use Rattle.m2_base.specs.Statics.Diagnostics.{not_a_variable, not_assignable, wrong_argument}
use Rattle.m2_base.specs.Statics.NamedOperands.{is_in_error}
use Rattle.m2_base.specs.Statics.Operands.{is_bad}
use Rattle.m2_base.specs.Statics.TypeParts.{Parameter}
use Rattle.m2_base.specs.Statics.Types.{is_broken, is_same, kind_of, size_of}
use Rattle.m2_base.specs.declared.operands.Operand.TheVariants.{InError, StringConstant, Variable}
use Rattle.m2_base.specs.declared.operands.Operand.{Operand}
use Rattle.code_form.specs.declared.instr.Instr.TheVariants.{Push, Local, Move}
use Rattle.block_code.specs.Coded.{Coded, characters}
use Rattle.block_code.specs.Fitting.{fitted_code}
use Rattle.block_code.specs.Parts.{Part, plain, ◌⨟◌, text, with_cells}
use Rattle.block_code.specs.StandardFunctions.{high_code}
use Rattle.block_code.specs.Values.{as_value, assigned_to}

-- ---- by value

-- A string as the value of an array of so many cells: temporary cells take its characters and the 0 behind them, or as
-- many of these as there are cells, and their address is the argument.
abbrev pub string_copy : (size : ℕ) → List ℕ → Part
string_copy size chars =
    with_cells size (λ t.
    plain (Local 0 t ∷ []) ⨟ text chars ⨟ plain (Move (min (length chars + 1) size) ∷ Local 0 t ∷ []))

-- by its operand, a value as the argument of a parameter of this type; what is in error is none
abbrev pub value_argument_by : Context → Place → Coded → Operand → Option Part
value_argument_by c t x InError = None
value_argument_by c t x (StringConstant n l) = Some (string_copy (size_of c.scene t) (characters c.source n))
value_argument_by c t x other = Some (fitted_code c t x)

-- a value that a parameter of this type takes
abbrev pub value_argument : Context → Place → Coded → Option Part
value_argument c t x = value_argument_by c t x x.operand

-- an argument of a value parameter that is no open array
abbrev pub by_value : Context → Place → (at : ℕ) → Coded → Gives (Option Part)
by_value c t at x = and_then (assigned_to c t at not_assignable x) (λ v. gives (value_argument c t v))

-- ---- by address

-- by its operand, an argument of a VAR parameter of this type
abbrev pub address_by : Context → Place → (at : ℕ) → Part → Operand → Gives (Option Part)
address_by c t at code (Variable u) =
    if is_same c.scene t u then gives (Some code) else refuse c at wrong_argument None
address_by c t at code other = gives None

-- an argument of a VAR parameter that is no open array
abbrev pub by_address : Context → Place → (at : ℕ) → Coded → Gives (Option Part)
by_address c t at x = address_by c t at x.code x.operand

-- ---- open arrays

-- an array whose elements are of this type, as the argument of an open array; `kind` is the meaning of the array's row
abbrev pub alike : Context → (want : Place) → (at : ℕ) → Coded → (kind : RowMeaning) → (elem : Place)
    → Gives (Option Part)
alike c want at x kind elem =
    if is_broken c.scene elem then gives None else
    if is_same c.scene elem want then gives (Some (x.code ⨟ high_code c.scene x kind)) else
    refuse c at wrong_argument None

-- a variable as the argument of an open array, by the meaning of its type; nothing is said of one with a part in error
abbrev pub array_argument : Context → (want : Place) → (at : ℕ) → Coded → RowMeaning → Gives (Option Part)
array_argument c want at x (Array i t s) =
    if is_broken c.scene i then gives None else alike c want at x (Array i t s) t
array_argument c want at x (OpenArray t) = alike c want at x (OpenArray t) t
array_argument c want at x other = refuse c at wrong_argument None

-- a string as the argument of an open array
abbrev pub string_argument : Context → (want : Place) → (at name len : ℕ) → Gives (Option Part)
string_argument c want at n len =
    if is_same c.scene want character
    then gives (Some (text (characters c.source n) ⨟ plain (Push (pos (len - 1)) ∷ [])))
    else refuse c at wrong_argument None

-- by its operand, an argument of an open array with elements of this type
abbrev pub open_argument : Context → (want : Place) → (at : ℕ) → Coded → Operand → Gives (Option Part)
open_argument c want at x (StringConstant n len) = string_argument c want at n len
open_argument c want at x (Variable u) = array_argument c want at x (kind_of c.scene u)
open_argument c want at x other = refuse c at wrong_argument None

-- the type of an open array's elements
abbrev pub open_element : RowMeaning → Place
open_element (OpenArray t) = t
open_element other = broken

-- ---- an argument beside its parameter

-- an argument that isn't in error, by the kind of its parameter
abbrev pub by_mode : Context → Parameter → (at : ℕ) → Coded → Gives (Option Part)
by_mode c p at x =
    if is_open_array c.scene p.typ then open_argument c (open_element (kind_of c.scene p.typ)) at x x.operand else
    if p.by_ref then by_address c p.typ at x else
    by_value c p.typ at x

-- a variable
abbrev pub is_variable : Operand → Bool
is_variable (Variable t) = true
is_variable other = false

-- an argument of a parameter; a VAR parameter takes a variable alone
abbrev pub checked_mode : Context → Parameter → (at : ℕ) → Coded → Gives (Option Part)
checked_mode c p at x =
    if is_bad x.operand || is_in_error c.scene p.typ then gives None else
    if p.by_ref && not (is_variable x.operand) then refuse c at not_a_variable None else
    by_mode c p at x

-- An argument beside its parameter: its code, where neither is in error.
abbrev pub argument : Context → Parameter → (at : ℕ) → Coded → Gives (Option Part)
argument c p at x = if p.by_ref then checked_mode c p at x else and_then (as_value c at x) (checked_mode c p at)

-- arguments in order; without one of them there is no call
abbrev pub after_argument : Option Part → Option Part → Option Part
after_argument (Some a) (Some b) = Some (a ⨟ b)
after_argument a b = None
