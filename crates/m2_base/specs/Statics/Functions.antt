-- The standard functions that constants may have, on operands: what each takes and gives.
use Rattle.std.specs.Prelude.{Bool, None, Option, Some, int_le, is_none, nat_abs, negsuc, not, pos, ℕ, ℤ}
use Rattle.std.specs.Prelude.{if◌then◌else◌, ◌-◌, ◌&&◌, ◌%◌}
use Rattle.m2_base.specs.Gives.{Gives, and_then, gives}
use Rattle.m2_base.specs.Rows.{Place, is_same_place, natural}
use Rattle.m2_base.specs.Standard.{boolean, broken, cardinal, character, integer}
use Rattle.m2_base.specs.Statics.Assignable.{is_open_array}
use Rattle.m2_base.specs.Statics.Compatible.{is_number_type}
use Rattle.m2_base.specs.Statics.Contexts.{Context, refuse}
use Rattle.m2_base.specs.Statics.Diagnostics.{not_a_type, not_a_variable, out_of_range, wrong_argument}
use Rattle.m2_base.specs.Statics.Folding.{number_kind, number_type}
use Rattle.m2_base.specs.Statics.Operands.{char_or_same, is_bad}
use Rattle.m2_base.specs.Statics.Operations.{base_type, is_ordinal}
use Rattle.m2_base.specs.Statics.Ranges.{Range, integer_range, is_within}
use Rattle.m2_base.specs.Statics.Types.{is_broken, range_of, size_of}
use Rattle.m2_base.specs.declared.operands.Operand.TheVariants.{Computed, Constant, InError, NamedType, NotConstant}
use Rattle.m2_base.specs.declared.operands.Operand.TheVariants.{Variable}
use Rattle.m2_base.specs.declared.operands.Operand.{Operand}

-- a wrong argument
abbrev pub wrong_at : Context → (at : ℕ) → Gives Operand
wrong_at c at = refuse c at wrong_argument InError

-- a number, or refused
abbrev pub number_argument : Context → (at : ℕ) → Operand → Gives Operand
number_argument c at o =
    if is_bad o then gives o else if is_number_type (base_type c o) then gives o else wrong_at c at

-- a value of an ordinal type, or refused; a string of one character is a CHAR
abbrev pub ordinal_argument : Context → (at : ℕ) → Operand → Gives Operand
ordinal_argument c at o =
    if is_bad o then gives o else
    if is_ordinal c (char_or_same c.source o) then gives (char_or_same c.source o) else wrong_at c at

-- a type, or in error
abbrev pub type_argument : Context → (at : ℕ) → Operand → Gives Place
type_argument c at (NamedType t) = gives t
type_argument c at InError = gives broken
type_argument c at other = refuse c at not_a_type broken

-- an ordinal type, or refused
abbrev pub ordinal_type : Context → (at : ℕ) → Place → Gives Place
ordinal_type c at t =
    if not (is_broken c.scene t) && is_none (range_of c.scene t) then refuse c at wrong_argument broken else gives t

-- an argument that is an ordinal type
abbrev pub ordinal_type_argument : Context → (at : ℕ) → Operand → Gives Place
ordinal_type_argument c at o = and_then (type_argument c at o) (ordinal_type c at)

-- a value as one of another ordinal type; a constant outside its range is refused
abbrev pub converted : Context → (at : ℕ) → Place → Operand → Gives Operand
converted c at t (Constant u v) =
    if is_within (range_of c.scene t) v then gives (Constant t v) else refuse c at out_of_range InError
converted c at t InError = gives InError
converted c at t NotConstant = gives NotConstant
converted c at t o = gives (Computed t)

-- the absolute value, of a base type; a constant that leaves INTEGER is refused
abbrev pub absolute : Context → (at : ℕ) → Place → Operand → Gives Operand
absolute c at t (Constant u v) =
    if is_same_place t integer && not (is_within (Some integer_range) (pos (nat_abs v))) then
    refuse c at out_of_range InError
    else gives (Constant t (pos (nat_abs v)))
absolute c at t InError = gives InError
absolute c at t NotConstant = gives NotConstant
absolute c at t o = gives (Computed t)

-- ABS: a number of the argument's base type
abbrev pub abs_of : Context → (at : ℕ) → Operand → Gives Operand
abs_of c at o = and_then (number_argument c at o) (λ x. absolute c at (number_type (number_kind (base_type c x))) x)

-- a small letter
abbrev pub is_small_letter : ℤ → Bool
is_small_letter v = int_le (pos 97) v && int_le v (pos 122)

-- a letter as a capital, any other character as it is
abbrev pub capital : Operand → Operand
capital (Constant t v) = Constant character (if is_small_letter v then pos (natural v - 32) else v)
capital o = Computed character

-- CAP: a CHAR, small letters as capitals
abbrev pub cap_of : Context → (at : ℕ) → Operand → Gives Operand
cap_of c at o =
    if is_bad o then gives o else
    if is_same_place (base_type c (char_or_same c.source o)) character then gives (capital (char_or_same c.source o))
    else wrong_at c at

-- CHR: the CHAR of a number
abbrev pub chr_of : Context → (at : ℕ) → Operand → Gives Operand
chr_of c at o = and_then (number_argument c at o) (converted c at character)

-- 1 for an odd number, 0 for an even one
abbrev pub odd_value : ℤ → ℤ
odd_value (pos n) = pos (n % 2)
odd_value (negsuc n) = pos (1 - n % 2)

-- whether a number is odd
abbrev pub oddness : Operand → Operand
oddness (Constant t v) = Constant boolean (odd_value v)
oddness InError = InError
oddness NotConstant = NotConstant
oddness o = Computed boolean

-- ODD: a BOOLEAN
abbrev pub odd_of : Context → (at : ℕ) → Operand → Gives Operand
odd_of c at o = and_then (number_argument c at o) (λ x. gives (oddness x))

-- ORD: an ordinal value as a CARDINAL
abbrev pub ord_of : Context → (at : ℕ) → Operand → Gives Operand
ord_of c at o = and_then (ordinal_argument c at o) (converted c at cardinal)

-- a value as one of a type, unless that is in error
abbrev pub val_as : Context → (at : ℕ) → Place → Operand → Gives Operand
val_as c at t o = if is_broken c.scene t then gives InError else converted c at t o

-- VAL: an ordinal value as one of the type
abbrev pub val_of : Context → (t_at : ℕ) → Operand → (at : ℕ) → Operand → Gives Operand
val_of c t_at t at o =
    and_then (ordinal_type_argument c t_at t) (λ typ.
    and_then (ordinal_argument c at o) (λ x.
    val_as c at typ x))

-- an end of a type's range, as a constant of the type
abbrev pub end_value : Context → Place → (Range → ℤ) → Option Range → Operand
end_value c t end None = InError
end_value c t end (Some r) = Constant t (end r)

-- MIN of an ordinal type
abbrev pub min_of : Context → (at : ℕ) → Operand → Gives Operand
min_of c at o = and_then (ordinal_type_argument c at o) (λ t. gives (end_value c t (λ r. r.low) (range_of c.scene t)))

-- MAX of an ordinal type
abbrev pub max_of : Context → (at : ℕ) → Operand → Gives Operand
max_of c at o = and_then (ordinal_type_argument c at o) (λ t. gives (end_value c t (λ r. r.high) (range_of c.scene t)))

-- SIZE: of a type a constant, of a variable a value that isn't constant; an open array has none
abbrev pub size_value : Context → (at : ℕ) → Operand → Gives Operand
size_value c at (NamedType t) = gives (Constant cardinal (pos (size_of c.scene t)))
size_value c at (Variable t) = if is_open_array c.scene t then wrong_at c at else gives (Computed cardinal)
size_value c at InError = gives InError
size_value c at NotConstant = gives NotConstant
size_value c at other = refuse c at not_a_variable InError
