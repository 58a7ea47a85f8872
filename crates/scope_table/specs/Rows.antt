-- Rows as words: a row is eight words, in the order of its fields, and a signed number is the word of the same bits.
use Rattle.std.specs.Prelude.{◌≡◌, ℕ, zero, suc, ◌+◌, ◌/◌, ◌%◌, ◌<◌, List, [], ◌∷◌, length, pos, slice_index}
use Rattle.std.specs.Prelude.{slice_index_or}
use Rattle.std.specs.Int.{cast_unsigned, cast_signed, w64}
use Rattle.std.specs.Int.RustNames.{FitsSigned}
use Rattle.m2_base.specs.declared.rows.Row.{Row}

-- the words of a row
abbrev pub words_of : Row → List ℕ
words_of r =
    r.name ∷ r.kind ∷ r.at ∷ cast_unsigned w64 r.a ∷ cast_unsigned w64 r.b ∷ cast_unsigned w64 r.c
    ∷ cast_unsigned w64 r.d ∷
    cast_unsigned w64 r.e ∷ []

-- the row whose words begin at b
abbrev pub row_at : List ℕ → (b : ℕ) → Row
row_at ws b =
    record {
      name = slice_index ws b % 4294967296;
      kind = slice_index ws (b + 1) % 256;
      at = slice_index ws (b + 2) % 4294967296;
      a = cast_signed w64 (slice_index ws (b + 3));
      b = cast_signed w64 (slice_index ws (b + 4));
      c = cast_signed w64 (slice_index ws (b + 5));
      d = cast_signed w64 (slice_index ws (b + 6));
      e = cast_signed w64 (slice_index ws (b + 7));
    }

-- so many rows, from the word b on
abbrev pub rows_at : List ℕ → (b : ℕ) → (many : ℕ) → List Row
rows_at ws b zero = []
rows_at ws b (suc n) = row_at ws b ∷ rows_at ws (b + 8) n

-- the rows that these words are
abbrev pub rows_of : List ℕ → List Row
rows_of ws = rows_at ws 0 (length ws / 8)

-- so many words, from the word b on
abbrev pub words_at : List ℕ → (b : ℕ) → (many : ℕ) → List ℕ
words_at ws b zero = []
words_at ws b (suc n) = slice_index ws b ∷ words_at ws (b + 1) n

-- the words from b on are these
abbrev pub Stand : List ℕ → ℕ → List ℕ → Type 0
Stand ws b xs = (k : ℕ) → k < length xs → slice_index ws (b + k) ≡ slice_index xs k

abbrev pub blank : Row
blank = record { name = 0; kind = 0; at = 0; a = pos 0; b = pos 0; c = pos 0; d = pos 0; e = pos 0 }

abbrev pub row_of : List Row → ℕ → Row
row_of rows k = slice_index_or rows k blank

-- this word is the field of this number of the row
abbrev pub IsField : Row → (field word : ℕ) → Type 0
IsField r zero w = r.name ≡ w % 4294967296
IsField r (suc zero) w = r.kind ≡ w % 256
IsField r (suc (suc zero)) w = r.at ≡ w % 4294967296
IsField r (suc (suc (suc zero))) w = r.a ≡ cast_signed w64 w
IsField r (suc (suc (suc (suc zero)))) w = r.b ≡ cast_signed w64 w
IsField r (suc (suc (suc (suc (suc zero))))) w = r.c ≡ cast_signed w64 w
IsField r (suc (suc (suc (suc (suc (suc zero)))))) w = r.d ≡ cast_signed w64 w
IsField r (suc (suc (suc (suc (suc (suc (suc zero))))))) w = r.e ≡ cast_signed w64 w
IsField r other w = Unit {0}

-- the numbers of a row have room in its words
pub record IsNarrow (r : Row) : Type 0 where
  pub name : r.name < 4294967296
  pub kind : r.kind < 256
  pub at : r.at < 4294967296
  pub a : FitsSigned w64 r.a
  pub b : FitsSigned w64 r.b
  pub c : FitsSigned w64 r.c
  pub d : FitsSigned w64 r.d
  pub e : FitsSigned w64 r.e
