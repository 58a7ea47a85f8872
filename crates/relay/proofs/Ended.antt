-- Jobs that are told and ended one after another.
use Rattle.std.proofs.Common.{◌≡◌, ℕ, suc, ◌+◌, ◌-◌, ◌<◌, Bool, true, List, [], ◌∷◌, ◌++◌, All, length, map, get_or, set, take, drop, sym, refl, ap, ◌∙◌, subst, arith}
use Rattle.std.proofs.lemmas.Grind.{get_or-set_at}
use Rattle.std.proofs.lemmas.List.{get_or-set_other, get_or_append_left, get_or-append_right, get_or_default, length-set, set-append_left, set-append_right}
use mathlib.Core.Logic.{dite}
use native.Mathlib.Decide.{ℕ_discrete}
use Rattle.relay.specs.Places.{numbers_to}
use Rattle.relay.specs.Hands.{AreLater}
use Rattle.relay.specs.Ends.{AreOver}
use Rattle.relay.proofs.Dealt.{number-at}

module _ {A : Type 0} where
  -- the two lists that a list was cut into, of which the one changed at its last place and the other at its first
  pub two_sets : (front back : List A) (p : ℕ) (x y : A) → length front ≡ p → 0 < p → set front (p - 1) x ++ set back 0 y ≡ set (set (front ++ back) (p - 1) x) p y
  two_sets front back p x y long some =
      let here : p - p ≡ 0 = omega arith in
      sym (ap (λ l. set l p y) (set-append_left front back (p - 1) x (omega arith))
      ∙ set-append_right (set front (p - 1) x) back p p y (length-set front (p - 1) x ∙ long) (omega arith)
      ∙ ap (λ n. set front (p - 1) x ++ set back n y) here)

  -- the first of the other list is the one at that place
  pub at_seam : (old front back : List A) (p : ℕ) (d : A) → old ≡ front ++ back → length front ≡ p → get_or back 0 d ≡ get_or old p d
  at_seam old front back p d cut long =
      let here : p - p ≡ 0 = omega arith in
      sym (ap (λ l. get_or l p d) cut ∙ get_or-append_right front back p p d long (omega arith) ∙ ap (λ n. get_or back n d) here)

  pub before_seam : (old front back : List A) (p : ℕ) (d : A) → old ≡ front ++ back → length front ≡ p → 0 < p → get_or front (p - 1) d ≡ get_or old (p - 1) d
  before_seam old front back p d cut long some = sym (ap (λ l. get_or l (p - 1) d) cut ∙ get_or_append_left front back d (p - 1) (omega arith))

  -- ** Each a later state of the one at its place

  module _ (stays : A → A → Type 0) (same : (job : A) → stays job job) (on : (job later latest : A) → stays job later → stays later latest → stays job latest) where
    pub later_same : (xs : List A) → AreLater stays xs xs
    later_same xs = record { many = refl; each = λ k d l. same (get_or xs k d) }

    pub later_on : (xs ys zs : List A) → AreLater stays xs ys → AreLater stays ys zs → AreLater stays xs zs
    later_on xs ys zs a b = record {
      many = b.many ∙ a.many;
      each = λ k d l. on (get_or xs k d) (get_or ys k d) (get_or zs k d) (a.each k d l) (b.each k d (let m = a.many in omega arith));
    }

    pub later_set : (xs : List A) (i : ℕ) (x d : A) → i < length xs → stays (get_or xs i d) x → AreLater stays xs (set xs i x)
    later_set xs i x d there step = record {
      many = length-set xs i x;
      each = λ k o l. dite (ℕ_discrete k i)
          (λ e. subst (stays (get_or xs k o)) (sym (get_or-set_at xs i k x o e there))
          (subst (λ job. stays job x) (get_or_default xs i d o there ∙ ap (λ n. get_or xs n o) (sym e)) step))
          (λ n. subst (stays (get_or xs k o)) (sym (get_or-set_other xs i k x o n)) (same (get_or xs k o)));
    }

    pub told_later : (old front back : List A) (p : ℕ) (x y d o : A) → old ≡ front ++ back → length front ≡ p → 0 < p → p < length old
        → stays (get_or front (p - 1) d) x → stays (get_or back 0 o) y → AreLater stays old (set front (p - 1) x ++ set back 0 y)
    told_later old front back p x y d o cut long some there first next =
        let mid = set old (p - 1) x in
        let a = later_set old (p - 1) x d (omega arith) (subst (λ job. stays job x) (before_seam old front back p d cut long some) first) in
        let still : get_or mid p o ≡ get_or back 0 o = get_or-set_other old (p - 1) p x o (λ h. absurd (omega arith)) ∙ sym (at_seam old front back p o cut long) in
        let b = later_set mid p y o (let m = length-set old (p - 1) x in omega arith) (subst (λ job. stays job y) (sym still) next) in
        subst (AreLater stays old) (sym (two_sets front back p x y long some ∙ ap (λ l. set (set l (p - 1) x) p y) (sym cut)))
        (later_on old mid (set mid p y) a b)

  -- ** The first so many are over

  pub over_set : (ready : A → Type 0) (done : A → Bool) (many : ℕ) (xs : List A) (i : ℕ) (x : A) → i < length xs → (i < many → ready x × (done x ≡ true))
      → AreOver ready done many xs → AreOver ready done many (set xs i x)
  over_set ready done many xs i x there it o = record {
    are_ready = λ k d l. dite (ℕ_discrete k i) (λ e. subst ready (sym (get_or-set_at xs i k x d e there)) (it (omega arith)).0)
        (λ n. subst ready (sym (get_or-set_other xs i k x d n)) (o.are_ready k d l));
    are_done = λ k d l. dite (ℕ_discrete k i) (λ e. ap done (get_or-set_at xs i k x d e there) ∙ (it (omega arith)).1)
        (λ n. ap done (get_or-set_other xs i k x d n) ∙ o.are_done k d l);
  }

  pub told_over : (stays : A → A → Type 0) (ready : A → Type 0) (done : A → Bool) → ((job later : A) → ready job → stays job later → ready later)
      → (old front back : List A) (p : ℕ) (x y d : A) → old ≡ front ++ back → length front ≡ p → 0 < p → p < length old
      → stays (get_or front (p - 1) d) x → done x ≡ true → AreOver ready done p old → AreOver ready done p (set front (p - 1) x ++ set back 0 y)
  told_over stays ready done on old front back p x y d cut long some there step over o =
      let was = subst ready (sym (before_seam old front back p d cut long some)) (o.are_ready (p - 1) d (omega arith)) in
      subst (AreOver ready done p) (sym (two_sets front back p x y long some ∙ ap (λ l. set (set l (p - 1) x) p y) (sym cut)))
      (over_set ready done p (set old (p - 1) x) p y (let m = length-set old (p - 1) x in omega arith) (λ l. absurd (omega arith))
      (over_set ready done p old (p - 1) x (omega arith) (λ l. (on (get_or front (p - 1) d) x was step, over)) o))

  -- what was told at the place after the front is there
  pub told_ready : (ready : A → Type 0) (old front back : List A) (p : ℕ) (x y d : A) → old ≡ front ++ back → length front ≡ p → 0 < p → p < length old → ready y
      → ready (get_or (set front (p - 1) x ++ set back 0 y) p d)
  told_ready ready old front back p x y d cut long some there is =
      subst ready (sym (ap (λ l. get_or l p d) (two_sets front back p x y long some ∙ ap (λ l. set (set l (p - 1) x) p y) (sym cut))
      ∙ get_or-set_at (set old (p - 1) x) p p y d refl (let m = length-set old (p - 1) x in omega arith))) is

  -- one more is over
  pub over_more : (stays : A → A → Type 0) (ready : A → Type 0) (done : A → Bool) → ((job later : A) → ready job → stays job later → ready later)
      → (xs : List A) (p : ℕ) (x d : A) → p < length xs → ready (get_or xs p d) → stays (get_or xs p d) x → AreOver ready done p xs → done x ≡ true
      → AreOver ready done (p + 1) (set xs p x)
  over_more stays ready done on xs p x d there was step o over = record {
    are_ready = λ k e l. dite (ℕ_discrete k p) (λ is. subst ready (sym (get_or-set_at xs p k x e is there)) (on (get_or xs p d) x was step))
        (λ n. subst ready (sym (get_or-set_other xs p k x e n)) (o.are_ready k e (omega arith)));
    are_done = λ k e l. dite (ℕ_discrete k p) (λ is. ap done (get_or-set_at xs p k x e is there) ∙ over)
        (λ n. ap done (get_or-set_other xs p k x e n) ∙ o.are_done k e (omega arith));
  }

  -- the numbers of two jobs that follow on one another
  pub next_number : (number : A → ℕ) (old front back : List A) (p : ℕ) (d o : A) → map number old ≡ numbers_to (length old) → old ≡ front ++ back → length front ≡ p → 0 < p
      → p < length old → number (get_or back 0 o) ≡ number (get_or front (p - 1) d) + 1
  next_number number old front back p d o order cut long some there =
      let a = ap number (at_seam old front back p o cut long) ∙ number-at number old p o order there in
      let b = ap number (before_seam old front back p d cut long some) ∙ number-at number old (p - 1) d order (omega arith) in omega arith

  -- ** What holds of the jobs holds of the later ones

  module _ (stays : A → A → Type 0) where
    tail_later : (x y : A) (xs ys : List A) → AreLater stays (x ∷ xs) (y ∷ ys) → AreLater stays xs ys
    tail_later x y xs ys a = record { many = (let m = a.many in omega arith); each = λ k d l. a.each (suc k) d (omega arith) }

    pub later_numbers : (number : A → ℕ) → ((job later : A) → stays job later → number later ≡ number job) → (xs ys : List A) → AreLater stays xs ys → map number ys ≡ map number xs
    later_numbers number law [] [] a = refl
    later_numbers number law [] (y ∷ ys) a = let m = a.many in absurd (omega arith)
    later_numbers number law (x ∷ xs) [] a = let m = a.many in absurd (omega arith)
    later_numbers number law (x ∷ xs) (y ∷ ys) a =
        let first = law x y (a.each 0 x (omega arith)) in let rest = later_numbers number law xs ys (tail_later x y xs ys a) in λ i. first i ∷ rest i

    pub later_order : (number : A → ℕ) → ((job later : A) → stays job later → number later ≡ number job) → (xs ys : List A) → AreLater stays xs ys
        → map number xs ≡ numbers_to (length xs) → map number ys ≡ numbers_to (length ys)
    later_order number law xs ys a order = later_numbers number law xs ys a ∙ order ∙ ap numbers_to (sym a.many)

    pub later_all : (P : A → Type 0) → ((job later : A) → P job → stays job later → P later) → (xs ys : List A) → AreLater stays xs ys → All P xs → All P ys
    later_all P law xs ys a all k d l = let m = a.many in let there : k < length xs = omega arith in law (get_or xs k d) (get_or ys k d) (all k d there) (a.each k d there)

  -- what a list has become as a slice
  pub written : (now was : List A) (n : ℕ) → n ≡ length now → take n (now ++ drop (length now) was) ≡ now
  written now was n e = ap (λ m. take m (now ++ drop (length now) was)) e ∙ front now (drop (length now) was)
    where
      front : (xs ys : List A) → take (length xs) (xs ++ ys) ≡ xs
      front [] ys = refl
      front (x ∷ xs) ys = ap (λ l. x ∷ l) (front xs ys)
