-- A module's name is an identifier, and short.
use Rattle.std.proofs.Common.{◌≡◌, ℕ, ◌≤◌, Bool, true, false, ◌&&◌, ◌||◌, not, List, [], ◌∷◌, Option, Some, None, arith, length, refl, ◌∙◌}
use Rattle.std.specs.List.{list_all}
use Rattle.std.specs.Prelude.{codes, if◌then◌else◌, is_some, nat_le, IsTrue}
use Rattle.std.specs.Str.{bytes_eq}
use Rattle.std.proofs.lemmas.Bool.{and_parts, leb-true}
use Rattle.m2_base.specs.Kinds.{kind_in, reserved_words}
use Rattle.m2_base.specs.Letters.{goes_on, is_blank, is_letter}
use Rattle.m2_base.specs.Meanings.{Meaning, blank, fixed_or, name}
use Rattle.m2_base.specs.Units.{IsIdentifier}
use Rattle.m2_base.specs.declared.kind.TokenKind.{TokenKind}
use Rattle.command_words.specs.Names.{is_identifier, is_name}

-- what makes a name
record IsMade (word : List ℕ) : Type 0 where
  identifier : is_identifier word ≡ true
  short : length word ≤ 64
  free : not (is_some (kind_in reserved_words word) || bytes_eq word (codes "InOut")) ≡ true

made : (word : List ℕ) → IsTrue (is_name word) → IsMade word
made word h =
    let parts = and_parts (is_identifier word && nat_le (length word) 64) (not (is_some (kind_in reserved_words word) || bytes_eq word (codes "InOut"))) h in
    let front = and_parts (is_identifier word) (nat_le (length word) 64) parts.0 in
    record { identifier = front.0; short = leb-true (length word) 64 front.1; free = parts.1 }

-- a letter is no blank
letter_apart : (b : ℕ) → is_letter b ≡ true → is_blank b ≡ false
letter_apart b e = grind arith

-- what isn't reserved has no kind
unreserved : (o : Option TokenKind) (other : Bool) (m : Meaning) → not (is_some o || other) ≡ true → fixed_or o m ≡ m
unreserved None other m e = refl
unreserved (Some kind) other m e = absurd cc

-- the second of three, by two tests
second : {A : Type 0} (first next : Bool) (x y z : A) → first ≡ false → next ≡ true → (if first then x else (if next then y else z)) ≡ y
second true next x y z e f = absurd cc
second false true x y z e f = refl
second false false x y z e f = absurd cc

pub name_identifier : (word : List ℕ) → IsTrue (is_name word) → IsIdentifier word
name_identifier word h = go word (made word h)
  where
    go : (word : List ℕ) → IsMade word → IsIdentifier word
    go [] m = absurd (let no : false ≡ true = m.identifier in cc)
    go (b ∷ bs) m =
        let parts = and_parts (is_letter b) (list_all goes_on bs) m.identifier in
        let apart = letter_apart b parts.0 in
        record {
          one = second (is_blank b) (is_letter b) (list_all is_blank bs) (list_all goes_on bs) _ apart parts.0 ∙ parts.1;
          spells = second (is_blank b) (is_letter b) blank (fixed_or (kind_in reserved_words (b ∷ bs)) (name (b ∷ bs))) _ apart parts.0
              ∙ unreserved (kind_in reserved_words (b ∷ bs)) (bytes_eq (b ∷ bs) (codes "InOut")) (name (b ∷ bs)) m.free;
        }

pub name_short : (word : List ℕ) → IsTrue (is_name word) → length word ≤ 1048576
name_short word h = let m = made word h in omega (arith, m.short)
