-- What holds of each element of lists that are put together or taken apart, or of what is found in one.
use Rattle.std.specs.Prelude.{Bool, true, false, if◌then◌else◌, List, [], ◌∷◌, ◌++◌, find, Some}
use Rattle.m2_base.specs.Lists.{Each, WhereKept}

pub each_all : {A : Type 0} (P : A → Type 0) (xs : List A) → ((x : A) → P x) → Each P xs
each_all P [] f = tt
each_all P (x ∷ xs) f = (f x, each_all P xs f)

pub each_append : {A : Type 0} (P : A → Type 0) (xs ys : List A) → Each P xs → Each P ys → Each P (xs ++ ys)
each_append P [] ys h k = k
each_append P (x ∷ xs) ys h k = (h.0, each_append P xs ys h.1 k)

pub each_then : {A : Type 0} (P Q : A → Type 0) (xs : List A) → ((x : A) → P x → Q x) → Each P xs → Each Q xs
each_then P Q [] f h = tt
each_then P Q (x ∷ xs) f h = (f x h.0, each_then P Q xs f h.1)

pub each_front : {A : Type 0} (P : A → Type 0) (xs ys : List A) → Each P (xs ++ ys) → Each P xs
each_front P [] ys h = tt
each_front P (x ∷ xs) ys h = (h.0, each_front P xs ys h.1)

pub each_back : {A : Type 0} (P : A → Type 0) (xs ys : List A) → Each P (xs ++ ys) → Each P ys
each_back P [] ys h = h
each_back P (x ∷ xs) ys h = each_back P xs ys h.1

-- what is found is one of them
pub each_found : {A : Type 0} (P : A → Type 0) (test : A → Bool) (xs : List A) → Each P xs → WhereKept (find test xs) P
each_found P test [] h = tt
each_found {A} P test (x ∷ xs) h = by_test (test x) (each_found P test xs h.1)
  where
    by_test : (b : Bool) → WhereKept (find test xs) P → WhereKept (if b then Some x else find test xs) P
    by_test true k = h.0
    by_test false k = k
