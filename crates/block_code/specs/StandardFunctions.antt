-- The code of the standard functions. What a function gives is the static rule's; where that is constant there is no
-- code. CHR, ORD and VAL are their argument, fitted to the result's type. The size of a variable, and the number of
-- elements of an array of fixed length, are pushed; no code is made of the variable.
use Rattle.std.specs.Prelude.{ℕ, ℤ, pos, ◌-ℤ◌, List, [], ◌∷◌, if◌then◌else◌, Option, Some, None}
use Rattle.m2_base.specs.Gives.{Gives, gives, and_then}
use Rattle.m2_base.specs.Rows.{is_same_place}
use Rattle.m2_base.specs.declared.rows.Place.{Place}
use Rattle.m2_base.specs.declared.rows.RowMeaning.{RowMeaning}
use Rattle.m2_base.specs.declared.rows.RowMeaning.TheVariants.{Array, OpenArray}
use Rattle.m2_base.specs.Standard.{broken, cardinal, character, integer}
use Rattle.m2_base.specs.Statics.Contexts.{Context, Scene, refuse}
use Rattle.m2_base.specs.Statics.Diagnostics.{not_a_variable, wrong_argument}
use Rattle.m2_base.specs.Statics.Functions.{abs_of, cap_of, chr_of, max_of, min_of, odd_of, ord_of, size_value, val_of}
use Rattle.m2_base.specs.Statics.Operands.{is_bad, operand_type}
use Rattle.m2_base.specs.Statics.Ranges.{Range}
use Rattle.m2_base.specs.Statics.Types.{base_of, is_broken, kind_of, range_of, size_of}
use Rattle.m2_base.specs.declared.builtins.Builtin.TheVariants.{Abs, Cap, Chr, High, Max, Min, Odd, Ord, Size}
use Rattle.m2_base.specs.declared.builtins.Builtin.{Builtin}
use Rattle.m2_base.specs.declared.operands.Operand.TheVariants.{Computed, InError, NamedType, NotConstant, Variable}
use Rattle.m2_base.specs.declared.operands.Operand.{Operand}
use Rattle.code_form.specs.declared.instr.Instr.{Instr}
use Rattle.code_form.specs.declared.instr.Instr.TheVariants.{Push, Eq, Mod as Remainder, Abs as Magnitude}
use Rattle.code_form.specs.declared.instr.Instr.TheVariants.{Cap as Capital}
use Rattle.block_code.specs.Coded.{Coded, coded, bare, in_error, value_code}
use Rattle.block_code.specs.Fitting.{fitted_code}
use Rattle.block_code.specs.Operators.{made, side_of}
use Rattle.block_code.specs.Parts.{Part, plain, ◌⨟◌}
use Rattle.block_code.specs.Values.{as_value}

-- ---- HIGH

-- how far a range reaches above its low end
abbrev pub high_of_range : Option Range → ℤ
high_of_range None = pos 0
high_of_range (Some r) = r.high -ℤ r.low

-- the number of elements less 1 of an array variable, by the meaning of its type
abbrev pub high_code : Scene → Coded → RowMeaning → Part
high_code scene x (Array i t s) = plain (Push (high_of_range (range_of scene i)) ∷ [])
high_code scene x other = x.high

-- HIGH of a variable, by the meaning of its type
abbrev pub high_of : Context → (at : ℕ) → Coded → RowMeaning → Gives Coded
high_of c at x (Array i t s) =
    if is_broken c.scene i then gives in_error
    else gives (coded (Computed cardinal) (high_code c.scene x (Array i t s)))
high_of c at x (OpenArray t) = gives (coded (Computed cardinal) (high_code c.scene x (OpenArray t)))
high_of c at x other = refuse c at wrong_argument in_error

-- by its operand, an argument that must be a variable
abbrev pub as_variable_by : Context → (at : ℕ) → Coded → Operand → Gives Coded
as_variable_by c at x (Variable t) = gives x
as_variable_by c at x InError = gives in_error
as_variable_by c at x NotConstant = gives in_error
as_variable_by c at x other = refuse c at not_a_variable in_error

-- an argument that must be a variable
abbrev pub as_variable : Context → (at : ℕ) → Coded → Gives Coded
as_variable c at x = as_variable_by c at x x.operand

-- HIGH of an argument that was a variable, or is in error
abbrev pub high_of_variable : Context → (at : ℕ) → Coded → Gives Coded
high_of_variable c at x =
    if is_bad x.operand then gives in_error else high_of c at x (kind_of c.scene (operand_type x.operand))

-- ---- functions of values

-- a function of a value, by the static rule and by the code that it makes of the value
abbrev pub on_value : Context → (at : ℕ) → Coded → (Operand → Gives Operand) → (Coded → Part) → Gives Coded
on_value c at x rule code =
    and_then (as_value c at x) (λ v. and_then (rule v.operand) (λ r. gives (made r (code v))))

-- the absolute value of an INTEGER; of other numbers it is the number
abbrev pub magnitude : Scene → Place → List Instr
magnitude scene t = if is_same_place (base_of scene t) integer then Magnitude ∷ [] else []

-- the code of ABS
abbrev pub abs_code : Context → Coded → Part
abs_code c v = value_code c v ⨟ plain (magnitude c.scene (operand_type v.operand))

-- the code of CAP
abbrev pub cap_code : Context → Coded → Part
cap_code c v = value_code c v ⨟ plain (Capital ∷ [])

-- the code of ODD: the remainder by 2 is 1
abbrev pub odd_code : Context → Coded → Part
odd_code c v =
    value_code c v
    ⨟ plain (Push (pos 2) ∷ Remainder (side_of c.scene (operand_type v.operand)) ∷ Push (pos 1) ∷ Eq ∷ [])

-- the code of SIZE of a variable
abbrev pub size_code : Context → Coded → Part
size_code c x = plain (Push (pos (size_of c.scene (operand_type x.operand))) ∷ [])

-- a function of one argument; of other standard procedures nobody asks
abbrev pub function_of_one : Context → Builtin → (at : ℕ) → Coded → Gives Coded
function_of_one c Abs at x = on_value c at x (abs_of c at) (abs_code c)
function_of_one c Cap at x = on_value c at x (cap_of c at) (cap_code c)
function_of_one c Chr at x = on_value c at x (chr_of c at) (fitted_code c character)
function_of_one c Odd at x = on_value c at x (odd_of c at) (odd_code c)
function_of_one c Ord at x = on_value c at x (ord_of c at) (fitted_code c cardinal)
function_of_one c Min at x = and_then (min_of c at x.operand) (λ r. gives (bare r))
function_of_one c Max at x = and_then (max_of c at x.operand) (λ r. gives (bare r))
function_of_one c Size at x = and_then (size_value c at x.operand) (λ r. gives (made r (size_code c x)))
function_of_one c High at x = and_then (as_variable c at x) (high_of_variable c at)
function_of_one c other at x = gives in_error

-- the type that an operand names
abbrev pub named_type : Operand → Place
named_type (NamedType t) = t
named_type other = broken

-- VAL, of a type and a value
abbrev pub value_of_type : Context → (t_at : ℕ) → Coded → (at : ℕ) → Coded → Gives Coded
value_of_type c t_at t at x =
    on_value c at x (val_of c t_at t.operand at) (fitted_code c (named_type t.operand))
