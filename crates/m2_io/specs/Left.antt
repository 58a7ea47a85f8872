-- What a source has left to give.
use Rattle.std.specs.Prelude.{ℕ, List, ◌++◌, Option, option_map}

-- what is left, with these bytes before it
abbrev pub with_front : List ℕ → Option (List ℕ) → Option (List ℕ)
with_front bytes left = option_map (λ rest. bytes ++ rest) left
