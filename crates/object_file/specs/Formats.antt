-- Formats: the fields of a file in their order, each with the values that are valid there. Which fields follow may
-- depend on the values of those before.
use Rattle.std.specs.Prelude.{◌≡◌, ◌≢◌, ℕ, zero, suc, ◌<◌, ◌≤◌, ◌^◌, Bool, true, false, List, [], ◌∷◌, ◌++◌, length}
use Rattle.std.specs.Prelude.{◌⊎◌}
use Rattle.object_file.specs.Contents.{u32, with_length}

pub data Format (A : Type 0) : Type 0 where
  -- no further field
  done : A → Format A
  -- these very bytes
  exact : List ℕ → Format A → Format A
  -- a number that passes the test
  number : (ℕ → Bool) → (ℕ → Format A) → Format A
  -- a length and so many bytes, which pass the test
  text : (List ℕ → Bool) → (List ℕ → Format A) → Format A
  -- so many bytes, whichever they are
  raw : ℕ → (List ℕ → Format A) → Format A

infixl 10 ◌>>=◌
-- the fields of the one, then those that its value leads to
unfoldable pub ◌>>=◌ : {A B : Type 0} → Format A → (A → Format B) → Format B
(done x) >>= f = f x
(exact e next) >>= f = exact e (next >>= f)
(number ok next) >>= f = number ok (λ n. next n >>= f)
(text ok next) >>= f = text ok (λ t. next t >>= f)
(raw n next) >>= f = raw n (λ t. next t >>= f)

-- n more entries; what is valid in one may depend on those before
unfoldable pub many : {A : Type 0} → (List A → Format A) → ℕ → List A → Format (List A)
many one zero before = done before
many one (suc n) before = one before >>= λ x. many one n (before ++ x ∷ [])

-- these very bytes
abbrev pub bytes_of : List ℕ → Format (List ℕ)
bytes_of e = exact e (done e)

-- one field whose value passes a test
abbrev pub numbered : (ℕ → Bool) → Format ℕ
numbered ok = number ok done

abbrev pub texted : (List ℕ → Bool) → Format (List ℕ)
texted ok = text ok done

-- so many bytes
abbrev pub raw_bytes : ℕ → Format (List ℕ)
raw_bytes n = raw n done

-- the number of entries, which passes a test, and the entries
abbrev pub counted : {A : Type 0} → (ℕ → Bool) → (List A → Format A) → Format (List A)
counted ok one = number ok (λ n. many one n [])

-- ---- what is valid, and what is broken

-- the bytes begin with this value's fields, each of them valid, and these follow
abbrev pub Spells : {A : Type 0} → Format A → List ℕ → A → List ℕ → Type 0
Spells (done x) bytes y rest = (x ≡ y) × (bytes ≡ rest)
Spells (exact e next) bytes y rest = (mid : List ℕ) × (bytes ≡ e ++ mid) × Spells next mid y rest
Spells (number ok next) bytes y rest =
    (n : ℕ) × (mid : List ℕ) × (n < 2 ^ 32) × (bytes ≡ u32 n ++ mid) × (ok n ≡ true) × Spells (next n) mid y rest
Spells (text ok next) bytes y rest = (t : List ℕ) × (mid : List ℕ) × (length t < 2 ^ 32)
    × (bytes ≡ with_length t ++ mid) × (ok t ≡ true) × Spells (next t) mid y rest
Spells (raw n next) bytes y rest =
    (t : List ℕ) × (mid : List ℕ) × (length t ≡ n) × (bytes ≡ t ++ mid) × Spells (next t) mid y rest

-- where something is wrong: how many bytes are left there, and the code that is told
pub record Bad : Type 0 where
  pub left : ℕ
  pub code : ℕ

-- 1: the bytes end within the field
abbrev pub ended : Bad
ended = record { left = 0; code = 1 }

-- 4: the field that begins these bytes isn't valid
abbrev pub not_valid : List ℕ → Bad
not_valid bytes = record { left = length bytes; code = 4 }

-- 3: from this byte on the bytes aren't the expected ones
pub record Differs (bytes expected : List ℕ) (bad : Bad) : Type 0 where
  pub same : List ℕ
  pub found : ℕ
  pub behind : List ℕ
  pub wanted : ℕ
  pub others : List ℕ
  pub bytes_are : bytes ≡ same ++ found ∷ behind
  pub expected_are : expected ≡ same ++ wanted ∷ others
  pub differ : found ≢ wanted
  pub told : bad ≡ record { left = length (found ∷ behind); code = 3 }

-- The first broken field. One that isn't whole is broken where the bytes end, whatever they are.
abbrev pub IsBroken : {A : Type 0} → Format A → List ℕ → Bad → Type 0
IsBroken (done x) bytes bad = ⊥
IsBroken (exact e next) bytes bad =
    ((length bytes < length e) × (bad ≡ ended))
    ⊎ (((length e ≤ length bytes) × Differs bytes e bad)
    ⊎ ((mid : List ℕ) × (bytes ≡ e ++ mid) × IsBroken next mid bad))
IsBroken (number ok next) bytes bad =
    ((length bytes < 4) × (bad ≡ ended))
    ⊎ (((n : ℕ) × (mid : List ℕ) × (n < 2 ^ 32) × (bytes ≡ u32 n ++ mid) × (ok n ≡ false) × (bad ≡ not_valid bytes))
    ⊎ ((n : ℕ) × (mid : List ℕ) × (n < 2 ^ 32) × (bytes ≡ u32 n ++ mid) × (ok n ≡ true) × IsBroken (next n) mid bad))
IsBroken (text ok next) bytes bad =
    ((length bytes < 4) × (bad ≡ ended))
    ⊎ (((n : ℕ) × (mid : List ℕ) × (n < 2 ^ 32) × (bytes ≡ u32 n ++ mid) × (length mid < n) × (bad ≡ ended))
    ⊎ (((t : List ℕ) × (mid : List ℕ) × (length t < 2 ^ 32) × (bytes ≡ with_length t ++ mid) × (ok t ≡ false)
    × (bad ≡ not_valid bytes))
    ⊎ ((t : List ℕ) × (mid : List ℕ) × (length t < 2 ^ 32) × (bytes ≡ with_length t ++ mid) × (ok t ≡ true)
    × IsBroken (next t) mid bad)))
IsBroken (raw n next) bytes bad =
    ((length bytes < n) × (bad ≡ ended))
    ⊎ ((t : List ℕ) × (mid : List ℕ) × (length t ≡ n) × (bytes ≡ t ++ mid) × IsBroken (next t) mid bad)

-- Why the fields of all of the bytes are no valid value's: one is broken, or bytes follow (2).
abbrev pub IsBad : {A : Type 0} → Format A → List ℕ → Bad → Type 0
IsBad {A} f bytes bad =
    IsBroken f bytes bad
    ⊎ ((x : A) × (rest : List ℕ) × Spells f bytes x rest × (0 < length rest)
    × (bad ≡ record { left = length rest; code = 2 }))
