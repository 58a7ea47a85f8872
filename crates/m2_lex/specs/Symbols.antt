-- The symbol at the front of a text.
use Rattle.std.specs.Prelude.{ℕ, nat_le, ◌&&◌, is_some, if◌then◌else◌, List, length, take}
use Rattle.m2_base.specs.Kinds.{kind_in, symbols}

-- two bytes where they spell a symbol, and else one
abbrev pub symbol_length : List ℕ → ℕ
symbol_length text = if nat_le 2 (length text) && is_some (kind_in symbols (take 2 text)) then 2 else 1
