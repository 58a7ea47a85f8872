-- The operands: a list whose last element is the topmost.
use Rattle.std.specs.Prelude.{ℕ, ◌-◌, ℤ, pos, List, length, take}
use Rattle.std.specs.List.{slice_index_or}

-- the operand with n others above it
abbrev pub top_of : ℕ → List ℤ → ℤ
top_of n xs = slice_index_or xs (length xs - 1 - n) (pos 0)

-- without the n topmost
abbrev pub without : ℕ → List ℤ → List ℤ
without n xs = take (length xs - n) xs
