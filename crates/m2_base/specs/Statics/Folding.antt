-- The value of an operator on two constants.
use Rattle.std.specs.Prelude.{Bool, None, Option, Some, bit_and, bit_or, bit_xor, false, int_le, int_lt, negsuc, not}
use Rattle.std.specs.Prelude.{pos, true, ℕ, ℤ, if◌then◌else◌, ◌-◌, ◌==◌, ◌^◌, ◌&&◌, ◌||◌, ◌-ℤ◌, ◌/◌, ◌%◌, ◌+ℤ◌, ◌*ℤ◌}
use Rattle.m2_base.specs.Rows.{Place, is_same_place, natural}
use Rattle.m2_base.specs.Standard.{cardinal, integer, whole}
use Rattle.m2_base.specs.Statics.Ranges.{Range, cardinal_range, integer_range, is_in, whole_range}
use Rattle.m2_base.specs.Trees.{Operator}
use Rattle.m2_base.specs.declared.operands.FoldKind.TheVariants as kinds
use Rattle.m2_base.specs.declared.operands.FoldKind.{FoldKind}
use Rattle.m2_base.specs.declared.trees.operators.Operator.TheVariants.{And, Div, Equal, Greater, GreaterEqual, Less}
use Rattle.m2_base.specs.declared.trees.operators.Operator.TheVariants.{LessEqual, Minus, Mod, Or, Plus, Slash, Times}
use Rattle.m2_base.specs.declared.trees.operators.Operator.TheVariants.{Unequal}

-- the operators that give a number of two numbers
abbrev pub is_arithmetic : Operator → Bool
is_arithmetic Plus = true
is_arithmetic Minus = true
is_arithmetic Times = true
is_arithmetic Div = true
is_arithmetic Mod = true
is_arithmetic other = false

-- equal and unequal
abbrev pub is_equality : Operator → Bool
is_equality Equal = true
is_equality Unequal = true
is_equality other = false

-- the operators that compare
abbrev pub is_relation : Operator → Bool
is_relation Equal = true
is_relation Unequal = true
is_relation Less = true
is_relation Greater = true
is_relation LessEqual = true
is_relation GreaterEqual = true
is_relation other = false

-- a Boolean as a constant's value
abbrev pub truth : Bool → ℤ
truth false = pos 0
truth true = pos 1

-- two numbers are equal
abbrev pub is_equal : ℤ → ℤ → Bool
is_equal x y = int_le x y && int_le y x

-- the low 32 bits
abbrev pub low_bits : ℤ → ℕ
low_bits (pos n) = n % 2 ^ 32
low_bits (negsuc n) = 2 ^ 32 - 1 - n % 2 ^ 32

-- the quotient by a positive number, rounded down
abbrev pub div_down : ℤ → ℕ → ℤ
div_down (pos n) d = pos (n / d)
div_down (negsuc n) d = negsuc (n / d)

-- the rest, from 0 to d - 1
abbrev pub mod_down : ℤ → ℕ → ℤ
mod_down (pos n) d = pos (n % d)
mod_down (negsuc n) d = pos (d - 1 - n % d)

-- the value, where it is in the range
abbrev pub where_in : Range → ℤ → Option ℤ
where_in r v = if is_in r v then Some v else None

-- the value, if it is in the range, and nothing for a divisor that isn't positive
abbrev pub fold_number : Range → Operator → ℤ → ℤ → Option ℤ
fold_number r Plus x y = where_in r (x +ℤ y)
fold_number r Minus x y = where_in r (x -ℤ y)
fold_number r Times x y = where_in r (x *ℤ y)
fold_number r Div x y = if int_lt (pos 0) y then where_in r (div_down x (natural y)) else None
fold_number r Mod x y = if int_lt (pos 0) y then where_in r (mod_down x (natural y)) else None
fold_number r other x y = None

-- two sets by their bits: union, difference, intersection, symmetric difference and inclusion
abbrev pub fold_bits : Operator → ℕ → ℕ → Option ℤ
fold_bits Plus x y = Some (pos (bit_or x y))
fold_bits Minus x y = Some (pos (x - bit_and x y))
fold_bits Times x y = Some (pos (bit_and x y))
fold_bits Slash x y = Some (pos (bit_xor x y))
fold_bits LessEqual x y = Some (truth (bit_and x y == x))
fold_bits GreaterEqual x y = Some (truth (bit_and x y == y))
fold_bits other x y = None

-- two ordinal numbers: their order; of BOOLEAN, whose numbers are 0 and 1, AND and OR
abbrev pub fold_ordinals : Operator → ℤ → ℤ → Option ℤ
fold_ordinals Less x y = Some (truth (int_lt x y))
fold_ordinals Greater x y = Some (truth (int_lt y x))
fold_ordinals LessEqual x y = Some (truth (int_le x y))
fold_ordinals GreaterEqual x y = Some (truth (int_le y x))
fold_ordinals And x y = Some (truth (not (is_equal x (pos 0)) && not (is_equal y (pos 0))))
fold_ordinals Or x y = Some (truth (not (is_equal x (pos 0)) || not (is_equal y (pos 0))))
fold_ordinals other x y = None

-- the operators other than equal and unequal, by the kind of the operands
abbrev pub fold_by_kind : FoldKind → Operator → ℤ → ℤ → Option ℤ
fold_by_kind kinds.Set op x y = fold_bits op (low_bits x) (low_bits y)
fold_by_kind kinds.Ordinal op x y = fold_ordinals op x y
fold_by_kind kinds.Integer op x y = if is_relation op then fold_ordinals op x y else fold_number integer_range op x y
fold_by_kind kinds.Cardinal op x y = if is_relation op then fold_ordinals op x y else fold_number cardinal_range op x y
fold_by_kind kinds.Whole op x y = if is_relation op then fold_ordinals op x y else fold_number whole_range op x y

-- the value of an operator on two constants of a kind; nothing where it is out of range or the divisor isn't positive
abbrev pub fold : FoldKind → Operator → ℤ → ℤ → Option ℤ
fold k Equal x y = Some (truth (is_equal x y))
fold k Unequal x y = Some (truth (not (is_equal x y)))
fold k op x y = fold_by_kind k op x y

-- the kind of a base type of numbers
abbrev pub number_kind : Place → FoldKind
number_kind t =
    if is_same_place t integer then kinds.Integer else if is_same_place t cardinal then kinds.Cardinal else kinds.Whole

-- the type of numbers of a kind
abbrev pub number_type : FoldKind → Place
number_type kinds.Integer = integer
number_type kinds.Cardinal = cardinal
number_type other = whole
