-- Numbers: which are INTEGER and which CARDINAL, truth values, sets, and the codes of traps.
use Rattle.std.specs.Prelude.{ℕ, ◌+◌, ◌-◌, ◌/◌, ◌^◌, Bool, true, false, ◌&&◌, ◌==◌, if◌then◌else◌, ℤ, pos, negsuc}
use Rattle.std.specs.Prelude.{◌+ℤ◌, int_le, int_lt, nat_lt, Option, Some, None, bit_and, bit_or, bit_xor, unsigned_abs}
use Rattle.std.specs.Int.{int_rem_euclid}
use Rattle.stack_machine.specs.declared.op.Kind.{Kind}
use Rattle.stack_machine.specs.declared.op.Kind.TheVariants.{Integer, Cardinal}
use Rattle.stack_machine.specs.declared.trap.Trap.{Trap}
use Rattle.stack_machine.specs.declared.trap.Trap.TheVariants as traps

abbrev pub code_of : Trap → ℕ
code_of traps.Memory = 1
code_of traps.Nil = 2
code_of traps.Address = 3
code_of traps.Index = 4
code_of traps.Range = 5
code_of traps.Divisor = 6
code_of traps.Result = 7
code_of traps.Case = 8
code_of traps.Procedure = 9

-- INTEGER is from -2147483648 to 2147483647, CARDINAL from 0 to 4294967295
abbrev pub in_kind : Kind → ℤ → Bool
in_kind Integer v = int_le (negsuc 2147483647) v && int_le v (pos 2147483647)
in_kind Cardinal v = int_le (pos 0) v && int_le v (pos 4294967295)

-- 1 for true, 0 for false
abbrev pub truth : Bool → ℤ
truth true = pos 1
truth false = pos 0

abbrev pub is_zero : ℤ → Bool
is_zero (pos n) = n == 0
is_zero (negsuc n) = false

abbrev pub same : ℤ → ℤ → Bool
same (pos m) (pos n) = m == n
same (negsuc m) (negsuc n) = m == n
same x y = false

-- a number from 0 to n - 1
abbrev pub below : ℕ → ℤ → Option ℕ
below n (pos k) = if nat_lt k n then Some k else None
below n (negsuc k) = None

-- how many elements an open array with this HIGH has
abbrev pub count_of : ℤ → ℕ
count_of (pos n) = n + 1
count_of (negsuc n) = 0

-- the low bits
abbrev pub low_bits : ℕ → ℤ → ℕ
low_bits n v = unsigned_abs (int_rem_euclid v (pos (2 ^ n)))

-- the set in the low 32 bits
abbrev pub set_of : ℤ → ℕ
set_of v = low_bits 32 v

abbrev pub union : ℤ → ℤ → ℕ
union x y = bit_or (set_of x) (set_of y)

abbrev pub difference : ℤ → ℤ → ℕ
difference x y = bit_and (set_of x) (2 ^ 32 - 1 - set_of y)

abbrev pub intersection : ℤ → ℤ → ℕ
intersection x y = bit_and (set_of x) (set_of y)

abbrev pub symmetric_difference : ℤ → ℤ → ℕ
symmetric_difference x y = bit_xor (set_of x) (set_of y)

-- all elements of the one are in the other
abbrev pub is_subset : ℤ → ℤ → Bool
is_subset x y = intersection x y == set_of x

-- whether an element from 0 to 31 is in the set
abbrev pub is_in : Option ℕ → ℕ → Bool
is_in None set = false
is_in (Some k) set = bit_and (set / 2 ^ k) 1 == 1

-- the set of all elements from low to high
abbrev pub span : ℕ → ℕ → ℕ
span low high = 2 ^ (high + 1) - 2 ^ low

-- x + c has not passed the last value: upward, or downward where c is negative
abbrev pub has_more : ℤ → ℤ → ℤ → Bool
has_more x c last = if int_lt c (pos 0) then int_le last (x +ℤ c) else int_le (x +ℤ c) last

-- the small letters become capital ones
abbrev pub capital : ℤ → ℤ
capital v = if int_le (pos 97) v && int_le v (pos 122) then v +ℤ negsuc 31 else v
