-- What is known of the bytes ahead.
use Rattle.std.specs.Prelude.{◌≡◌, ℕ, ◌<◌, ◌≤◌, List, slice_index}
use Rattle.std.specs.List.{prefix_len}
use Rattle.m2_base.specs.Letters.{is_hexadecimal_digit}

-- the byte behind the hexadecimal digits at the front is an `H`
abbrev pub ShowsH : List ℕ → Type 0
ShowsH text = slice_index text (prefix_len is_hexadecimal_digit text) ≡ 72

-- so many bytes at the front are hexadecimal digits, and if there are any, then no `H` comes behind them
pub record IsPlain (count : ℕ) (text : List ℕ) : Type 0 where
  pub within : count ≤ prefix_len is_hexadecimal_digit text
  pub without : 0 < count → ShowsH text → ⊥
