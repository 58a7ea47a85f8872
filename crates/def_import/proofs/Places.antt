-- Where an item stands in a list.
use Rattle.std.proofs.Common.{◌≡◌, ◌⊎◌, ℕ, zero, suc, ◌≤◌, Bool, true, false, ◌||◌, List, [], ◌∷◌, ◌++◌, Some, None, length, map, refl, sym, ◌∙◌, ap, subst, arith, slice_get, nat_eq, inl, inr}
use Rattle.std.specs.List.{list_all, list_any}
use Rattle.std.proofs.lemmas.Bool.{and_parts, eqb-true, false≢true}
use Rattle.m2_base.specs.Lists.{Each, IsIn}
use Rattle.m2_base.specs.Units.{AllDiffer}
use Rattle.def_import.specs.Dependencies.{is_in}

pub some_is : {A : Type 0} (x y : A) → Some x ≡ Some y → x ≡ y
some_is x y e = cc

pub some_none : {A : Type 0} (x : A) → Some x ≡ None → ⊥
some_none x e = cc

pub still_at : {A : Type 0} (xs ys : List A) (i : ℕ) (x : A) → slice_get xs i ≡ Some x → slice_get (xs ++ ys) i ≡ Some x
still_at [] ys i x e = cc
still_at (y ∷ xs) ys zero x e = e
still_at (y ∷ xs) ys (suc i) x e = still_at xs ys i x e

pub last_at : {A : Type 0} (xs : List A) (x : A) → slice_get (xs ++ x ∷ []) (length xs) ≡ Some x
last_at [] x = refl
last_at (y ∷ xs) x = last_at xs x

pub pushed_at : {A : Type 0} (xs : List A) (x : A) (i : ℕ) (y : A) → slice_get (xs ++ x ∷ []) i ≡ Some y → (slice_get xs i ≡ Some y) ⊎ ((i ≡ length xs) × (x ≡ y))
pushed_at [] x zero y e = inr (refl, cc)
pushed_at [] x (suc i) y e = cc
pushed_at (z ∷ xs) x zero y e = inl e
pushed_at (z ∷ xs) x (suc i) y e = elim (pushed_at xs x i y e) [
  | inl h ↦ inl h
  | inr h ↦ inr (ap suc h.0, h.1)
]

pub nothing_at : {A : Type 0} (xs : List A) (i : ℕ) → slice_get xs i ≡ None → length xs ≤ i
nothing_at [] i e = omega arith
nothing_at (x ∷ xs) zero e = cc
nothing_at (x ∷ xs) (suc i) e = omega (arith, nothing_at xs i e)

pub mapped_at : {A B : Type 0} (f : A → B) (xs : List A) (i : ℕ) (y : B) → slice_get (map f xs) i ≡ Some y → (x : A) × (slice_get xs i ≡ Some x) × (f x ≡ y)
mapped_at f [] i y e = cc
mapped_at f (x ∷ xs) zero y e = (x, refl, cc)
mapped_at f (x ∷ xs) (suc i) y e = mapped_at f xs i y e

pub each_of : {A : Type 0} (P : A → Type 0) (xs : List A) → ((i : ℕ) (x : A) → slice_get xs i ≡ Some x → P x) → Each P xs
each_of P [] h = tt
each_of P (x ∷ xs) h = (h 0 x refl, each_of P xs (λ i y e. h (suc i) y e))

pub each_in : {A : Type 0} (P : A → Type 0) (xs : List A) (x : A) → IsIn x xs → Each P xs → P x
each_in P [] x i h = absurd i
each_in P (y ∷ xs) x (inl e) h = subst P (sym e) h.0
each_in P (y ∷ xs) x (inr i) h = each_in P xs x i h.1

-- ** Numbers in a list

pub is_among : (xs : List ℕ) (x : ℕ) → is_in xs x ≡ true → IsIn x xs
is_among [] x h = absurd (false≢true h)
is_among (y ∷ xs) x h = go (nat_eq y x) refl h (is_among xs x)
  where
    go : (b : Bool) → nat_eq y x ≡ b → (b || is_in xs x) ≡ true → (is_in xs x ≡ true → IsIn x xs) → IsIn x (y ∷ xs)
    go true e h next = inl (sym (eqb-true y x e))
    go false e h next = inr (next h)

pub any_among : (xs : List ℕ) (x : ℕ) → list_any (nat_eq x) xs ≡ true → IsIn x xs
any_among [] x h = absurd (false≢true h)
any_among (y ∷ xs) x h = go (nat_eq x y) refl h (any_among xs x)
  where
    go : (b : Bool) → nat_eq x y ≡ b → (b || list_any (nat_eq x) xs) ≡ true → (list_any (nat_eq x) xs ≡ true → IsIn x xs) → IsIn x (y ∷ xs)
    go true e h next = inl (eqb-true x y e)
    go false e h next = inr (next h)

pub all_among : (xs ys : List ℕ) (y : ℕ) → list_all (is_in xs) ys ≡ true → IsIn y ys → IsIn y xs
all_among xs [] y h i = absurd i
all_among xs (z ∷ ys) y h (inl e) = subst (λ w. IsIn w xs) (sym e) (is_among xs z (and_parts (is_in xs z) (list_all (is_in xs) ys) h).0)
all_among xs (z ∷ ys) y h (inr i) = all_among xs ys y (and_parts (is_in xs z) (list_all (is_in xs) ys) h).1 i

pub in_either : (xs : List ℕ) (x y : ℕ) → IsIn y (xs ++ x ∷ []) → IsIn y xs ⊎ (y ≡ x)
in_either [] x y (inl e) = inr e
in_either [] x y (inr i) = absurd i
in_either (z ∷ xs) x y (inl e) = inl (inl e)
in_either (z ∷ xs) x y (inr i) = elim (in_either xs x y i) [
  | inl h ↦ inl (inr h)
  | inr e ↦ inr e
]

-- ** Items with a number of their own

pub mapped_in : {A : Type 0} (f : A → ℕ) (xs : List A) (i : ℕ) (x : A) → slice_get xs i ≡ Some x → IsIn (f x) (map f xs)
mapped_in f [] i x e = cc
mapped_in f (y ∷ xs) zero x e = let same : y ≡ x = cc in inl (sym (ap f same))
mapped_in f (y ∷ xs) (suc i) x e = inr (mapped_in f xs i x e)

pub differ_at : {A : Type 0} (f : A → ℕ) (xs : List A) (i j : ℕ) (x y : A) → AllDiffer (map f xs) → slice_get xs i ≡ Some x → slice_get xs j ≡ Some y → f x ≡ f y → i ≡ j
differ_at f [] i j x y d e k same = cc
differ_at f (z ∷ xs) zero zero x y d e k same = refl
differ_at f (z ∷ xs) zero (suc j) x y d e k same =
    let first : z ≡ x = cc in absurd (d.0 (subst (λ n. IsIn n (map f xs)) (sym (ap f first ∙ same)) (mapped_in f xs j y k)))
differ_at f (z ∷ xs) (suc i) zero x y d e k same =
    let first : z ≡ y = cc in absurd (d.0 (subst (λ n. IsIn n (map f xs)) (same ∙ sym (ap f first)) (mapped_in f xs i x e)))
differ_at f (z ∷ xs) (suc i) (suc j) x y d e k same = ap suc (differ_at f xs i j x y d.1 e k same)
