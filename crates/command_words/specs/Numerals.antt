-- The numerals of a command line.
use Rattle.std.specs.Prelude.{ℕ, Bool, ◌&&◌, List, Option, Some, None, if◌then◌else◌, nat_le, length}
use Rattle.std.specs.List.{list_all}
use Rattle.std.specs.Str.Parse.{digits_value}
use Rattle.m2_base.specs.Letters.{is_digit}

-- 1 to 10 decimal digits
abbrev pub is_numeral : List ℕ → Bool
is_numeral word = nat_le 1 (length word) && nat_le (length word) 10 && list_all is_digit word

-- the value of a numeral from 1 to this
abbrev pub value_to : ℕ → List ℕ → Option ℕ
value_to most word = if is_numeral word && nat_le 1 (digits_value 10 word) && nat_le (digits_value 10 word) most then
    Some (digits_value 10 word) else None
