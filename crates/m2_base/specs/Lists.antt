-- Words on lists, for lists of anything.
use Rattle.std.specs.Prelude.{◌≡◌, ◌≢◌, ℕ, ◌<◌, List, [], ◌∷◌, ◌++◌, Option, Some, None, ◌⊎◌, slice_get}

-- xs is the beginning of ys
pub record IsPrefixOf {A : Type 0} (xs ys : List A) : Type 0 where
  pub rest : List A
  pub joined : xs ++ rest ≡ ys

-- x is one of xs
abbrev pub IsIn : {A : Type 0} → A → List A → Type 0
IsIn x [] = ⊥
IsIn x (y ∷ ys) = (x ≡ y) ⊎ IsIn x ys

-- P of each of xs
abbrev pub Each : {A : Type 0} → (A → Type 0) → List A → Type 0
Each P [] = Unit {0}
Each P (x ∷ xs) = P x × Each P xs

-- more are the items by which ys is longer than xs, where both are kept
abbrev pub Grows : {A : Type 0} → Option (List A) → List A → Option (List A) → Type 0
Grows None more None = Unit {0}
Grows (Some xs) more (Some ys) = ys ≡ xs ++ more
Grows None more (Some ys) = ⊥
Grows (Some xs) more None = ⊥

-- P of the value, if there is one
abbrev pub WhereKept : {A : Type 0} → Option A → (A → Type 0) → Type 0
WhereKept None P = Unit {0}
WhereKept (Some x) P = P x

-- where the list is kept, P of its last item
abbrev pub WhereLast : {A : Type 0} → Option (List A) → (A → Type 0) → Type 0
WhereLast None P = Unit {0}
WhereLast {A} (Some xs) P = (front : List A) × (x : A) × (xs ≡ front ++ x ∷ []) × P x

-- no number but 0 is that of two of them
abbrev pub HasNoRepeats : {A : Type 0} → (A → ℕ) → List A → Type 0
HasNoRepeats {A} number xs = (i j : ℕ) (x y : A) → i < j → slice_get xs i ≡ Some x → slice_get xs j ≡ Some y
    → number x ≢ 0 → number x ≢ number y
