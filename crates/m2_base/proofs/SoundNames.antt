-- The names of a unit are short, and of bytes, as the laws on rows and code ask.
use Rattle.std.proofs.Common.{ℕ, zero, suc, ◌<◌, ◌≤◌, ◌^◌, List, [], ◌∷◌, length, arith}
use Rattle.std.specs.Prelude.{slice_index_or}
use Rattle.m2_base.specs.Lists.{Each}
use Rattle.m2_base.specs.Statics.Contexts.{Source}
use Rattle.m2_base.specs.Statics.FormedRows.{IsSoundText}
use Rattle.m2_base.specs.Statics.Operands.{characters_of, first_of}
use Rattle.m2_base.specs.Units.{IsSpelling}

spelling_at : (names : List (List ℕ)) (n : ℕ) → Each IsSpelling names → IsSpelling (slice_index_or names n [])
spelling_at [] n h = record { short = omega arith; bytes = tt }
spelling_at (x ∷ names) zero h = h.0
spelling_at (x ∷ names) (suc n) h = spelling_at names n h.1

-- the empty string counts as one character
characters_few : (text : List ℕ) → length text ≤ 1048576 → length (characters_of text) < 2 ^ 32
characters_few [] h = omega arith
characters_few (b ∷ text) h = omega (arith, h)

first_byte : (text : List ℕ) → Each (λ byte. byte < 256) text → first_of text < 256
first_byte [] h = omega arith
first_byte (b ∷ text) h = h.0

pub names_sound : (source : Source) → Each IsSpelling source.spellings → IsSoundText source
names_sound source h =
    record {
      short = λ n. let s = spelling_at source.spellings n h in characters_few (slice_index_or source.spellings n []) s.short;
      bytes = λ n. let s = spelling_at source.spellings n h in first_byte (slice_index_or source.spellings n []) s.bytes;
    }
