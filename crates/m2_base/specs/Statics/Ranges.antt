-- Ranges of whole numbers: the values of a type.
use Rattle.std.specs.Prelude.{Bool, None, Option, Some, int_le, negsuc, pos, true, ℕ, ℤ, ◌+◌, ◌&&◌, ◌-ℤ◌}
use Rattle.m2_base.specs.declared.limits.TheConstants.{GREATEST_CARDINAL, GREATEST_INTEGER, LEAST_INTEGER}

-- the values from low to high, both with them
pub record Range : Type 0 where
  pub low : ℤ
  pub high : ℤ

-- the range from low to high
abbrev pub range : ℤ → ℤ → Range
range low high = record { low = low; high = high }

-- the values of INTEGER
abbrev pub integer_range : Range
integer_range = range LEAST_INTEGER GREATEST_INTEGER

-- the values of CARDINAL
abbrev pub cardinal_range : Range
cardinal_range = range (pos 0) GREATEST_CARDINAL

-- the values of whole constants
abbrev pub whole_range : Range
whole_range = range LEAST_INTEGER GREATEST_CARDINAL

-- the value is in the range
abbrev pub is_in : Range → ℤ → Bool
is_in r v = int_le r.low v && int_le v r.high

-- where there is a range, the value is in it
abbrev pub is_within : Option Range → ℤ → Bool
is_within None v = true
is_within (Some r) v = is_in r v

-- how many numbers there are from 0 to this one
abbrev pub count_to : ℤ → ℕ
count_to (pos n) = n + 1
count_to (negsuc n) = 0

-- the number of values of a range
abbrev pub count_of : Range → ℕ
count_of r = count_to (r.high -ℤ r.low)
