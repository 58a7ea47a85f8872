-- What is noted of a text is the earliest of the faults that are told of it.
use Rattle.std.proofs.Common.{◌≡◌, ◌∙◌, ◌⊎◌, inl, inr, ℕ, ◌<◌, ◌≤◌, ◌==◌, nat_lt, if◌then◌else◌, Bool, true, false, List, [], ◌∷◌, ◌++◌, length, Option, Some, None, refl, sym, ap, subst, arith, append_assoc}
use Rattle.std.specs.Prelude.{fold, replicate, slice_index_or}
use Rattle.std.proofs.lemmas.Bool.{eqb-true, ltb-true, ltb-false}
use Rattle.std.proofs.lemmas.List.{append-nil, get_or-replicate, get_or-set_other, get_or-set_same, length-replicate, length-set}
use Rattle.m2_base.specs.Lists.{IsIn, WhereKept}
use Rattle.m2_base.specs.declared.outputs.StreamFault.{StreamFault}
use Rattle.stream_split.specs.Agreement.{fault_at}
use Rattle.unit_merge.specs.Earliest.{AreOf, earlier, earliest, text_of, with_fault, with_told}

-- ** One text

abbrev step : (k : ℕ) → Option StreamFault → Option StreamFault → Option StreamFault
step k b None = b
step k b (Some f) = if text_of f == k then Some (earlier b f) else b

-- what is noted of text k, over all that is told
abbrev noted : (k : ℕ) → Option StreamFault → List (Option StreamFault) → Option StreamFault
noted k b [] = b
noted k b (x ∷ told) = noted k (step k b x) told

-- the fault is the earliest of text k among these, where there is one
pub record IsEarliest (k : ℕ) (told : List (Option StreamFault)) (r : Option StreamFault) : Type 0 where
  pub none : r ≡ None → (f : StreamFault) → IsIn (Some f) told → text_of f ≡ k → ⊥
  pub one : (g : StreamFault) → r ≡ Some g → IsIn (Some g) told × (text_of g ≡ k)
  pub least : (g f : StreamFault) → r ≡ Some g → IsIn (Some f) told → text_of f ≡ k → fault_at g ≤ fault_at f

in_left : {A : Type 0} (x : A) (xs ys : List A) → IsIn x xs → IsIn x (xs ++ ys)
in_left x [] ys h = absurd h
in_left x (z ∷ xs) ys (inl e) = inl e
in_left x (z ∷ xs) ys (inr h) = inr (in_left x xs ys h)

in_last : {A : Type 0} (x : A) (xs : List A) → IsIn x (xs ++ x ∷ [])
in_last x [] = inl refl
in_last x (z ∷ xs) = inr (in_last x xs)

in_cases : {A : Type 0} (x y : A) (xs : List A) → IsIn x (xs ++ y ∷ []) → IsIn x xs ⊎ (x ≡ y)
in_cases x y [] (inl e) = inr e
in_cases x y [] (inr h) = absurd h
in_cases x y (z ∷ xs) (inl e) = inl (inl e)
in_cases x y (z ∷ xs) (inr h) = by (in_cases x y xs h)
  where
    by : IsIn x xs ⊎ (x ≡ y) → IsIn x (z ∷ xs) ⊎ (x ≡ y)
    by (inl i) = inl (inr i)
    by (inr e) = inr e

some_is : {A : Type 0} (x y : A) → Some x ≡ Some y → x ≡ y
some_is x y e = cc

none_is : {A : Type 0} (x : A) → Some x ≡ None → ⊥
none_is x e = cc

-- nothing is told of a stream
step_none : (k : ℕ) (told : List (Option StreamFault)) (b : Option StreamFault) → IsEarliest k told b → IsEarliest k (told ++ None ∷ []) b
step_none k told b h = record {
  none = λ e f i t. by (in_cases (Some f) None told i) (λ j. h.none e f j t);
  one = λ g e. (in_left (Some g) told (None ∷ []) (h.one g e).0, (h.one g e).1);
  least = λ g f e i t. least g f (in_cases (Some f) None told i) (λ j. h.least g f e j t);
}
  where
    by : {f : StreamFault} → IsIn (Some f) told ⊎ (Some f ≡ None) → (IsIn (Some f) told → ⊥) → ⊥
    by (inl i) go = go i
    by {f} (inr e) go = none_is f e

    least : (g f : StreamFault) → IsIn (Some f) told ⊎ (Some f ≡ None) → (IsIn (Some f) told → fault_at g ≤ fault_at f) → fault_at g ≤ fault_at f
    least g f (inl i) go = go i
    least g f (inr e) go = absurd (none_is f e)

-- a fault of another text
step_other : (k : ℕ) (told : List (Option StreamFault)) (b : Option StreamFault) (x : StreamFault) → (text_of x ≡ k → ⊥) → IsEarliest k told b → IsEarliest k (told ++ Some x ∷ []) b
step_other k told b x other h = record {
  none = λ e f i t. by (in_cases (Some f) (Some x) told i) t (λ j. h.none e f j t);
  one = λ g e. (in_left (Some g) told (Some x ∷ []) (h.one g e).0, (h.one g e).1);
  least = λ g f e i t. least g f (in_cases (Some f) (Some x) told i) t (λ j. h.least g f e j t);
}
  where
    by : {f : StreamFault} → IsIn (Some f) told ⊎ (Some f ≡ Some x) → text_of f ≡ k → (IsIn (Some f) told → ⊥) → ⊥
    by (inl i) t go = go i
    by {f} (inr e) t go = other (ap text_of (sym (some_is f x e)) ∙ t)

    least : (g f : StreamFault) → IsIn (Some f) told ⊎ (Some f ≡ Some x) → text_of f ≡ k → (IsIn (Some f) told → fault_at g ≤ fault_at f) → fault_at g ≤ fault_at f
    least g f (inl i) t go = go i
    least g f (inr e) t go = absurd (other (ap text_of (sym (some_is f x e)) ∙ t))

-- the first fault of the text
step_first : (k : ℕ) (told : List (Option StreamFault)) (x : StreamFault) → text_of x ≡ k → IsEarliest k told None → IsEarliest k (told ++ Some x ∷ []) (Some x)
step_first k told x same h = record {
  none = λ e f i t. none_is x e;
  one = λ g e. (subst (λ y. IsIn (Some y) (told ++ Some x ∷ [])) (some_is x g e) (in_last (Some x) told), ap text_of (sym (some_is x g e)) ∙ same);
  least = λ g f e i t. least (some_is x g e) (in_cases (Some f) (Some x) told i) (λ j. h.none refl f j t);
}
  where
    least : {f g : StreamFault} → x ≡ g → IsIn (Some f) told ⊎ (Some f ≡ Some x) → (IsIn (Some f) told → ⊥) → fault_at g ≤ fault_at f
    least e (inl i) go = absurd (go i)
    least {f} {g} e (inr s) go = let same : g ≡ f = sym e ∙ sym (some_is f x s) in let at = ap fault_at same in omega (arith, at)

-- a further fault of the text
step_more : (k : ℕ) (told : List (Option StreamFault)) (b x : StreamFault) → text_of x ≡ k → IsEarliest k told (Some b) → (r : Bool) → nat_lt (fault_at x) (fault_at b) ≡ r
    → IsEarliest k (told ++ Some x ∷ []) (Some (if r then x else b))
step_more k told b x same h true e =
    let lower : fault_at x < fault_at b = ltb-true (fault_at x) (fault_at b) e in
    record {
      none = λ s f i t. none_is x s;
      one = λ g s. (subst (λ y. IsIn (Some y) (told ++ Some x ∷ [])) (some_is x g s) (in_last (Some x) told), ap text_of (sym (some_is x g s)) ∙ same);
      least = λ g f s i t. least (some_is x g s) (in_cases (Some f) (Some x) told i) (λ j. let low = h.least b f refl j t in omega (arith, low, lower));
    }
  where
    least : {f g : StreamFault} → x ≡ g → IsIn (Some f) told ⊎ (Some f ≡ Some x) → (IsIn (Some f) told → fault_at x ≤ fault_at f) → fault_at g ≤ fault_at f
    least {f} {g} s (inl i) go = let at = ap fault_at s in let low = go i in omega (arith, at, low)
    least {f} {g} s (inr t) go = let same : g ≡ f = sym s ∙ sym (some_is f x t) in let at = ap fault_at same in omega (arith, at)
step_more k told b x same h false e =
    let lower : fault_at b ≤ fault_at x = ltb-false (fault_at x) (fault_at b) e in
    record {
      none = λ s f i t. none_is b s;
      one = λ g s. (in_left (Some g) told (Some x ∷ []) (h.one g s).0, (h.one g s).1);
      least = λ g f s i t. least (some_is b g s) (in_cases (Some f) (Some x) told i) (λ j. h.least g f s j t) lower;
    }
  where
    least : {f g : StreamFault} → b ≡ g → IsIn (Some f) told ⊎ (Some f ≡ Some x) → (IsIn (Some f) told → fault_at g ≤ fault_at f) → fault_at b ≤ fault_at x → fault_at g ≤ fault_at f
    least s (inl i) go low = go i
    least {f} {g} s (inr t) go low = let at = ap fault_at s in let other = ap fault_at (some_is f x t) in omega (arith, at, other, low)

step_same : (k : ℕ) (told : List (Option StreamFault)) (b : Option StreamFault) (x : StreamFault) → text_of x ≡ k → IsEarliest k told b → IsEarliest k (told ++ Some x ∷ []) (Some (earlier b x))
step_same k told None x same h = step_first k told x same h
step_same k told (Some b) x same h = step_more k told b x same h (nat_lt (fault_at x) (fault_at b)) refl

step_earliest : (k : ℕ) (told : List (Option StreamFault)) (b x : Option StreamFault) → IsEarliest k told b → IsEarliest k (told ++ x ∷ []) (step k b x)
step_earliest k told b None h = step_none k told b h
step_earliest k told b (Some x) h = by (text_of x == k) refl
  where
    by : (r : Bool) → (text_of x == k) ≡ r → IsEarliest k (told ++ Some x ∷ []) (if r then Some (earlier b x) else b)
    by true e = step_same k told b x (eqb-true (text_of x) k e) h
    by false e = step_other k told b x (λ same. let no : (text_of x == k) ≡ true = grind arith in absurd cc) h

noted_earliest : (k : ℕ) (before told : List (Option StreamFault)) (b : Option StreamFault) → IsEarliest k before b → IsEarliest k (before ++ told) (noted k b told)
noted_earliest k before [] b h = subst (λ all. IsEarliest k all b) (sym (append-nil before)) h
noted_earliest k before (x ∷ told) b h =
    subst (λ all. IsEarliest k all (noted k (step k b x) told)) (append_assoc before (x ∷ []) told) (noted_earliest k (before ++ x ∷ []) told (step k b x) (step_earliest k before b x h))

-- ** All texts

told_length : (xs : List (Option StreamFault)) (x : Option StreamFault) → length (with_told xs x) ≡ length xs
told_length xs None = refl
told_length xs (Some f) = length-set xs (text_of f) (Some (earlier (slice_index_or xs (text_of f) None) f))

pub fold_length : (told xs : List (Option StreamFault)) → length (fold with_told xs told) ≡ length xs
fold_length [] xs = refl
fold_length (x ∷ told) xs = fold_length told (with_told xs x) ∙ told_length xs x

step_at : (k : ℕ) (xs : List (Option StreamFault)) (x : Option StreamFault) → WhereKept x (λ f. text_of f < length xs) → slice_index_or (with_told xs x) k None ≡ step k (slice_index_or xs k None) x
step_at k xs None h = refl
step_at k xs (Some f) h = by (text_of f == k) refl
  where
    by : (r : Bool) → (text_of f == k) ≡ r → slice_index_or (with_fault xs f) k None ≡ (if r then Some (earlier (slice_index_or xs k None) f) else slice_index_or xs k None)
    by true e =
        let same : text_of f ≡ k = eqb-true (text_of f) k e in
        subst (λ (i : ℕ). slice_index_or (with_fault xs f) i None ≡ Some (earlier (slice_index_or xs i None) f)) same
        (get_or-set_same xs (text_of f) (Some (earlier (slice_index_or xs (text_of f) None) f)) None h)
    by false e = get_or-set_other xs (text_of f) k (Some (earlier (slice_index_or xs (text_of f) None) f)) None (λ same. let no : (text_of f == k) ≡ true = grind arith in absurd cc)

fold_at : (k : ℕ) (told xs : List (Option StreamFault)) → AreOf (length xs) told → slice_index_or (fold with_told xs told) k None ≡ noted k (slice_index_or xs k None) told
fold_at k [] xs h = refl
fold_at k (x ∷ told) xs h =
    fold_at k told (with_told xs x) (subst (λ n. AreOf n told) (sym (told_length xs x)) h.1) ∙ ap (λ b. noted k b told) (step_at k xs x h.0)

pub earliest_length : (count : ℕ) (told : List (Option StreamFault)) → length (earliest count told) ≡ count
earliest_length count told = fold_length told (replicate count None) ∙ length-replicate count None

none_told : (k : ℕ) → IsEarliest k [] None
none_told k = record { none = λ e f i t. i; one = λ g e. absurd (none_is g (sym e)); least = λ g f e i t. absurd i }

-- the fault that is kept of a text is the earliest that is told of it
pub earliest_is : (count : ℕ) (told : List (Option StreamFault)) → AreOf count told → (k : ℕ) → k < count → IsEarliest k told (slice_index_or (earliest count told) k None)
earliest_is count told h k low =
    subst (IsEarliest k told) (sym (fold_at k told (replicate count None) (subst (λ n. AreOf n told) (sym (length-replicate count None)) h) ∙ ap (λ b. noted k b told) (get_or-replicate count k None None low)))
    (noted_earliest k [] told None (none_told k))
