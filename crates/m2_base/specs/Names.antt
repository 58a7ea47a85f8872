-- The numbers of names: each text has the number of its place in the list, and a new one comes last.
use Rattle.std.specs.Prelude.{◌≡◌, ◌<◌, ◌^◌, ℕ, List, [], ◌∷◌, ◌++◌, if◌then◌else◌}
use Rattle.std.specs.Prelude.{Option, position, codes, fold, length}
use Rattle.std.specs.HashMap.{HashMap, get_by}
use Rattle.std.specs.List.{list_any, IsDistinct}
use Rattle.std.specs.Str.{bytes_eq}

-- the number of these bytes, if they have one
abbrev pub number_in : List (List ℕ) → List ℕ → Option ℕ
number_in names bytes = position (bytes_eq bytes) names

-- the names with this one among them
abbrev pub with_name : List (List ℕ) → List ℕ → List (List ℕ)
with_name names bytes = if list_any (bytes_eq bytes) names then names else names ++ bytes ∷ []

abbrev pub with_names : List (List ℕ) → List (List ℕ) → List (List ℕ)
with_names names new = fold with_name names new

-- The names that each unit begins with: number 0 is the empty text, 1 to 26 are the standard names of the language,
-- and 27 is the library module.
unfoldable pub standard_names : List (List ℕ)
standard_names =
    []
    ∷ codes "INTEGER" ∷ codes "CARDINAL" ∷ codes "CHAR" ∷ codes "BOOLEAN" ∷ codes "BITSET" ∷ codes "PROC"
    ∷ codes "TRUE" ∷ codes "FALSE" ∷ codes "NIL"
    ∷ codes "ABS" ∷ codes "CAP" ∷ codes "CHR" ∷ codes "DEC" ∷ codes "DISPOSE" ∷ codes "EXCL" ∷ codes "HALT"
    ∷ codes "HIGH" ∷ codes "INC" ∷ codes "INCL"
    ∷ codes "MAX" ∷ codes "MIN" ∷ codes "NEW" ∷ codes "ODD" ∷ codes "ORD" ∷ codes "SIZE" ∷ codes "VAL"
    ∷ codes "InOut"
    ∷ []

-- ** What code keeps of names

-- each text has the number in the index that it has in the list
abbrev pub AreNumbersOf : {V S : Type 0} → (V → List ℕ) → HashMap V ℕ S → List (List ℕ) → Type 0
AreNumbersOf items numbers texts =
    (text : List ℕ) → get_by (λ key. bytes_eq text (items key)) numbers ≡ number_in texts text

-- texts that differ, and not too many, with an index of their numbers
pub record AreIndexed {V S : Type 0} (items : V → List ℕ) (index : HashMap V ℕ S) (texts : List (List ℕ)) : Type 0 where
  pub found : AreNumbersOf items index texts
  pub differ : IsDistinct bytes_eq texts
  pub few : length texts < 2 ^ 32
