-- Comments, which go from `(*` to `*)` and nest.
use Rattle.std.specs.Prelude.{ℕ, ◌+◌, ◌-◌, ◌==◌, ◌&&◌, Bool, true, if◌then◌else◌, List, [], ◌∷◌, drop, codes, Option}
use Rattle.std.specs.Prelude.{Some, None, nat_eq}
use Rattle.std.specs.List.{starts_with}
use Rattle.std.specs.Str.{bytes_eq, byte}

-- a place in a text: how deep in comments it is, and the byte before it, or 0 where that ended a `(*` or a `*)`
pub record Depth : Type 0 where
  pub depth : ℕ
  pub before : ℕ

-- the place one byte further
abbrev pub one_further : Depth → ℕ → Depth
one_further p b =
    if p.before == byte "(" && b == byte "*" then record { depth = p.depth + 1; before = 0 }
    else (if p.before == byte "*" && b == byte ")" then record { depth = p.depth - 1; before = 0 }
    else record { depth = p.depth; before = b })

-- behind the `(*` that opens a comment
abbrev pub in_comment : Depth
in_comment = record { depth = 1; before = 0 }

-- what follows the comment that the bytes go on with, if it is closed
abbrev pub after_comment : Depth → List ℕ → Option (List ℕ)
after_comment p [] = None
after_comment p (b ∷ bs) = if (one_further p b).depth == 0 then Some bs else after_comment (one_further p b) bs

abbrev pub opens_comment : List ℕ → Bool
opens_comment bytes = starts_with nat_eq bytes (codes "(*")

-- what follows the comment that the bytes begin with, if it is closed
abbrev pub behind_comment : List ℕ → Option (List ℕ)
behind_comment bytes = after_comment in_comment (drop 2 bytes)

-- nothing follows
abbrev pub is_all : Option (List ℕ) → Bool
is_all (Some after) = bytes_eq after []
is_all None = true

-- the bytes are one comment, closed at their end or open
abbrev pub is_comment : List ℕ → Bool
is_comment bytes = opens_comment bytes && is_all (behind_comment bytes)
