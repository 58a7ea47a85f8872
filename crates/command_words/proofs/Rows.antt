-- What is found in clap's rows with one row more.
use Rattle.std.proofs.Common.{◌≡◌, ℕ, Bool, true, false, ◌||◌, List, [], ◌∷◌, ◌++◌, Option, Some, None, is_some, refl, sym, ◌∙◌, ap}
use Rattle.std.specs.Prelude.{if◌then◌else◌, option_and_then, find, slice_get}
use Rattle.std.specs.Str.{bytes_eq}
use Rattle.std.proofs.lemmas.Bool.{false≢true}
use Rattle.clap.specs.Walk.{Row, at_row, first_of, has_row, more_values, with_values, without}
use Rattle.clap.specs.declared.parser.matches.ValueSource.TheVariants.{CommandLine}
use Rattle.clap.specs.declared.builder.value_parser.Reading.{Reading}

-- the row of one use with one value
abbrev pub new_row : List ℕ → Reading → List ℕ → Row
new_row id how v = record { id = id; values = v ∷ []; count = None; source = Some CommandLine; reading = how }

at_end : (id : List ℕ) (change : Row → List Row) (missing rows : List Row) → has_row id rows ≡ false → at_row id change missing rows ≡ rows ++ missing
at_end id change missing [] e = refl
at_end id change missing (r ∷ rs) e = go (bytes_eq r.id id) e (λ h. at_end id change missing rs h)
  where
    go : (b : Bool) → (b || has_row id rs) ≡ false → (has_row id rs ≡ false → at_row id change missing rs ≡ rs ++ missing) → (if b then change r ++ rs else r ∷ at_row id change missing rs) ≡ r ∷ (rs ++ missing)
    go true e h = absurd (false≢true (sym e))
    go false e h = ap (λ x. r ∷ x) (h e)

ends : (rows : List Row) → rows ++ [] ≡ rows
ends [] = refl
ends (r ∷ rs) = ap (λ x. r ∷ x) (ends rs)

pub row_added : (id : List ℕ) (how : Reading) (v : List ℕ) (rows : List Row) → has_row id rows ≡ false → with_values id how CommandLine (v ∷ []) (without id rows) ≡ rows ++ new_row id how v ∷ []
row_added id how v rows e =
    ap (with_values id how CommandLine (v ∷ [])) (at_end id (λ _. []) [] rows e ∙ ends rows) ∙ at_end id (more_values CommandLine (v ∷ [])) (new_row id how v ∷ []) rows e

has_more : (k : List ℕ) (rows : List Row) (row : Row) → has_row k (rows ++ row ∷ []) ≡ (has_row k rows || bytes_eq row.id k)
has_more k [] row = go (bytes_eq row.id k)
  where
    go : (b : Bool) → (b || false) ≡ b
    go true = refl
    go false = refl
has_more k (r ∷ rs) row = go (bytes_eq r.id k) (has_more k rs row)
  where
    go : (b : Bool) → has_row k (rs ++ row ∷ []) ≡ (has_row k rs || bytes_eq row.id k) → (b || has_row k (rs ++ row ∷ [])) ≡ ((b || has_row k rs) || bytes_eq row.id k)
    go true e = refl
    go false e = e

abbrev first_at : Option Row → Option (List ℕ)
first_at = option_and_then (λ r. slice_get r.values 0)

first_more : (k : List ℕ) (rows : List Row) (row : Row) → first_of k (rows ++ row ∷ []) ≡ (if has_row k rows then first_of k rows else first_of k (row ∷ []))
first_more k [] row = refl
first_more k (r ∷ rs) row = go (bytes_eq r.id k) (first_more k rs row)
  where
    go : (b : Bool) → first_of k (rs ++ row ∷ []) ≡ (if has_row k rs then first_of k rs else first_of k (row ∷ []))
        → first_at (if b then Some r else find (λ r. bytes_eq r.id k) (rs ++ row ∷ [])) ≡ (if (b || has_row k rs) then first_at (if b then Some r else find (λ r. bytes_eq r.id k) rs) else first_of k (row ∷ []))
    go true e = refl
    go false e = e

pub none_first : (k : List ℕ) (rows : List Row) → has_row k rows ≡ false → first_of k rows ≡ None
none_first k [] e = refl
none_first k (r ∷ rs) e = go (bytes_eq r.id k) e (λ h. none_first k rs h)
  where
    go : (b : Bool) → (b || has_row k rs) ≡ false → (has_row k rs ≡ false → first_of k rs ≡ None) → first_at (if b then Some r else find (λ r. bytes_eq r.id k) rs) ≡ None
    go true e h = absurd (false≢true (sym e))
    go false e h = h e

module _ (id : List ℕ) (how : Reading) (v : List ℕ) (rows : List Row) where
  pub first_same : bytes_eq id id ≡ true → has_row id rows ≡ false → first_of id (rows ++ new_row id how v ∷ []) ≡ Some v
  first_same same e = first_more id rows (new_row id how v) ∙ ap (λ b. if b then first_of id rows else first_of id (new_row id how v ∷ [])) e ∙ ap (λ b. first_at (if b then Some (new_row id how v) else None)) same

  pub first_other : (k : List ℕ) → bytes_eq id k ≡ false → first_of k (rows ++ new_row id how v ∷ []) ≡ first_of k rows
  first_other k other = first_more k rows (new_row id how v) ∙ ap (λ o. if has_row k rows then first_of k rows else o) (ap (λ b. first_at (if b then Some (new_row id how v) else None)) other) ∙ go (has_row k rows) refl
    where
      go : (b : Bool) → has_row k rows ≡ b → (if b then first_of k rows else None) ≡ first_of k rows
      go true e = refl
      go false e = sym (none_first k rows e)

-- each row has a value
abbrev pub IsFull : List Row → Type 0
IsFull rows = (k : List ℕ) → has_row k rows ≡ is_some (first_of k rows)

pub full_none : IsFull []
full_none k = refl

pub full_more : (id : List ℕ) (how : Reading) (v : List ℕ) (rows : List Row) → IsFull rows → IsFull (rows ++ new_row id how v ∷ [])
full_more id how v rows full k = has_more k rows (new_row id how v) ∙ go (has_row k rows) refl ∙ ap is_some (sym (first_more k rows (new_row id how v)))
  where
    last : (b : Bool) → b ≡ is_some (first_at (if b then Some (new_row id how v) else None))
    last true = refl
    last false = refl

    go : (b : Bool) → has_row k rows ≡ b → (b || bytes_eq id k) ≡ is_some (if b then first_of k rows else first_of k (new_row id how v ∷ []))
    go true e = sym e ∙ full k
    go false e = last (bytes_eq id k)
