-- When a text has too many tokens, and what a call leaves of the names.
use Rattle.std.specs.Prelude.{◌≡◌, ℕ, ◌<◌, List, ◌++◌, length}
use Rattle.m2_base.specs.Lexemes.{AreLexemes}
use Rattle.m2_base.specs.Tokens.{placed}

-- the text has more than 1,048,576 tokens, the end among them
abbrev pub HasTooMany : List ℕ → Type 0
HasTooMany text = (lexemes : List (List ℕ)) × AreLexemes text lexemes × (1048576 < length (placed lexemes))

-- the old names keep their numbers
abbrev pub Extends : List (List ℕ) → List (List ℕ) → Type 0
Extends old new = (more : List (List ℕ)) × (new ≡ old ++ more)
