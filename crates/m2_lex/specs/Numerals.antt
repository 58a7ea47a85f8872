-- The numeral at the front of a text.
use Rattle.std.specs.Prelude.{ℕ, ◌+◌, ◌==◌, ◌||◌, if◌then◌else◌, List, slice_index}
use Rattle.std.specs.List.{prefix_len}
use Rattle.std.specs.Str.{byte}
use Rattle.m2_base.specs.Letters.{is_digit, is_octal_digit}

-- the byte behind the octal digits at the front
abbrev pub behind_octal : List ℕ → ℕ
behind_octal text = slice_index text (prefix_len is_octal_digit text)

-- octal digits with the `B` or `C` behind them, and else digits
abbrev pub plain_length : List ℕ → ℕ
plain_length text = if behind_octal text == byte "B" || behind_octal text == byte "C" then
    prefix_len is_octal_digit text + 1 else prefix_len is_digit text
