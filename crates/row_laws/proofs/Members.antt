-- What holds of each element of a list, and of one that is there.
use Rattle.std.specs.Prelude.{◌≡◌, ℕ, zero, suc, List, [], ◌∷◌, slice_get, Some, drop, take, length, slice_index_or, ◌<◌, None, Option}
use Rattle.std.proofs.Common.{inl, inr, refl, subst, sym, arith}
use Rattle.m2_base.specs.Lists.{Each, IsIn, WhereKept}
use Rattle.m2_base.proofs.NoRepeats.{some_is}

pub each_at : {A : Type 0} (P : A → Type 0) (xs : List A) → Each P xs → (k : ℕ) (x : A) → slice_get xs k ≡ Some x → P x
each_at P [] h k x e = absurd (cc)
each_at P (y ∷ xs) h zero x e = subst P (some_is y x e) h.0
each_at P (y ∷ xs) h (suc k) x e = each_at P xs h.1 k x e

pub each_index : {A : Type 0} (P : A → Type 0) (xs : List A) (d : A) → Each P xs → (k : ℕ) → k < length xs → P (slice_index_or xs k d)
each_index P [] d h k l = absurd (omega (arith, l))
each_index P (x ∷ xs) d h zero l = h.0
each_index P (x ∷ xs) d h (suc k) l = each_index P xs d h.1 k (omega (arith, l))

pub each_in : {A : Type 0} (P : A → Type 0) (xs : List A) (x : A) → Each P xs → IsIn x xs → P x
each_in P [] x h k = absurd k
each_in P (y ∷ xs) x h (inl e) = subst P (sym e) h.0
each_in P (y ∷ xs) x h (inr k) = each_in P xs x h.1 k

-- what holds of all that is there, by its number or as an element, holds of each
pub each_got : {A : Type 0} (P : A → Type 0) (xs : List A) → ((k : ℕ) (x : A) → slice_get xs k ≡ Some x → P x) → Each P xs
each_got P [] f = tt
each_got P (x ∷ xs) f = (f 0 x refl, each_got P xs (λ k y e. f (suc k) y e))

pub each_there : {A : Type 0} (P : A → Type 0) (xs : List A) → ((x : A) → IsIn x xs → P x) → Each P xs
each_there P [] f = tt
each_there P (x ∷ xs) f = (f x (inl refl), each_there P xs (λ y h. f y (inr h)))

-- of the first elements, and of those behind them
pub each_take : {A : Type 0} (P : A → Type 0) (n : ℕ) (xs : List A) → Each P xs → Each P (take n xs)
each_take P zero xs h = tt
each_take P (suc n) [] h = tt
each_take P (suc n) (x ∷ xs) h = (h.0, each_take P n xs h.1)

pub each_drop : {A : Type 0} (P : A → Type 0) (n : ℕ) (xs : List A) → Each P xs → Each P (drop n xs)
each_drop P zero xs h = h
each_drop P (suc n) [] h = tt
each_drop P (suc n) (x ∷ xs) h = each_drop P n xs h.1

-- of what is there, if there is something
pub kept_then : {A : Type 0} (P Q : A → Type 0) (o : Option A) → ((x : A) → P x → Q x) → WhereKept o P → WhereKept o Q
kept_then P Q None f h = tt
kept_then P Q (Some x) f h = f x h
