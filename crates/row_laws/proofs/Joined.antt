-- What stands in lists that are joined, and what is found there.
use Rattle.std.specs.Prelude.{◌≡◌, ◌⊎◌, Bool, true, false, cond, find, List, [], ◌∷◌, ◌++◌, Some, None, slice_get, suc, zero, ℕ}
use Rattle.std.proofs.Common.{ap, refl, inl, inr, ◌∙◌}
use Rattle.m2_base.specs.Lists.{IsIn}

pub in_left : {A : Type 0} (x : A) (xs ys : List A) → IsIn x xs → IsIn x (xs ++ ys)
in_left x [] ys h = absurd h
in_left x (z ∷ xs) ys (inl e) = inl e
in_left x (z ∷ xs) ys (inr h) = inr (in_left x xs ys h)

pub in_right : {A : Type 0} (x : A) (xs ys : List A) → IsIn x ys → IsIn x (xs ++ ys)
in_right x [] ys h = h
in_right x (z ∷ xs) ys h = inr (in_right x xs ys h)

pub in_append : {A : Type 0} (x : A) (xs ys : List A) → IsIn x (xs ++ ys) → IsIn x xs ⊎ IsIn x ys
in_append x [] ys h = inr h
in_append x (z ∷ xs) ys (inl e) = inl (inl e)
in_append {A} x (z ∷ xs) ys (inr h) = by (in_append x xs ys h)
  where
    by : IsIn x xs ⊎ IsIn x ys → IsIn x (z ∷ xs) ⊎ IsIn x ys
    by (inl i) = inl (inr i)
    by (inr i) = inr i

-- what follows from being in either list
pub in_either : {A : Type 0} {P : Type 0} (x : A) (xs ys : List A) → (IsIn x xs → P) → (IsIn x ys → P) → IsIn x (xs ++ ys) → P
in_either {A} {P} x xs ys f g h = by (in_append x xs ys h)
  where
    by : IsIn x xs ⊎ IsIn x ys → P
    by (inl i) = f i
    by (inr i) = g i

-- a list that is nothing has no parts
pub none_left : {A : Type 0} (xs ys : List A) → xs ++ ys ≡ [] → (xs ≡ []) × (ys ≡ [])
none_left [] ys e = (refl, e)
none_left (x ∷ xs) ys e = absurd (cc)

pub both_none : {A : Type 0} {xs ys : List A} → xs ≡ [] → ys ≡ [] → xs ++ ys ≡ []
both_none {ys = ys} e f = ap (λ zs. zs ++ ys) e ∙ f

-- what stands in joined lists stands in the front or in the back
pub front_or_back : {A : Type 0} (xs ys : List A) (k : ℕ) (x : A) → slice_get (xs ++ ys) k ≡ Some x → (slice_get xs k ≡ Some x) ⊎ ((j : ℕ) × (slice_get ys j ≡ Some x))
front_or_back [] ys k x e = inr (k, e)
front_or_back (z ∷ xs) ys zero x e = inl e
front_or_back (z ∷ xs) ys (suc k) x e = front_or_back xs ys k x e

pub find_right : {A : Type 0} (test : A → Bool) (xs ys : List A) → find test xs ≡ None → find test (xs ++ ys) ≡ find test ys
find_right test [] ys h = refl
find_right {A} test (x ∷ xs) ys h = by (test x) h (find_right test xs ys)
  where
    by : (b : Bool) → cond b (Some x) (find test xs) ≡ None → (find test xs ≡ None → find test (xs ++ ys) ≡ find test ys) → cond b (Some x) (find test (xs ++ ys)) ≡ find test ys
    by true e i = cc
    by false e i = i e

pub find_left : {A : Type 0} (test : A → Bool) (xs ys : List A) → find test ys ≡ None → find test (xs ++ ys) ≡ find test xs
find_left test [] ys h = h
find_left test (x ∷ xs) ys h = ap (cond (test x) (Some x)) (find_left test xs ys h)
