-- The rounds in which texts are taken: at the end none is left that is ready, and each text comes after those that it needs.
use Rattle.std.proofs.Common.{◌≡◌, ◌⊎◌, ℕ, zero, suc, ◌+◌, ◌<◌, Bool, true, false, ◌&&◌, not, List, [], ◌∷◌, ◌++◌, Option, Some, None, length, length-append, refl, sym, ◌∙◌, ap, subst, arith, slice_get, if◌then◌else◌, nat_eq, inl, inr}
use Rattle.std.specs.List.{IsDistinct, list_any}
use Rattle.std.proofs.lemmas.Bool.{and_parts, true≢false}
use Rattle.std.proofs.lemmas.Cmp.{nat_eq_equiv}
use Rattle.std.proofs.lemmas.Map.Keys.{IsDistinct-push}
use Rattle.std.proofs.lemmas.Map.Steps.{length-le_from_distinct_below}
use Rattle.m2_base.specs.Lists.{IsIn}
use Rattle.m2_base.specs.Units.{StandsBefore}
use Rattle.def_import.specs.Closure.{Found, Progress}
use Rattle.def_import.specs.Dependencies.{all_in, and_taken, definitions, dependency_order, first_ready, is_in, is_ready, needs_of, next_taken, taken_in}
use Rattle.def_import.proofs.Places.{all_among, any_among, each_in, in_either}
use Rattle.def_import.proofs.UnitKept.{left_true, next_is, not_in, order_sound}

-- ** Which text is ready

ready_at : (p : Progress) (taken : List ℕ) (k : ℕ) (found : List Found) (j i : ℕ) (f : Found) → first_ready p taken k found ≡ Some j → k + i ≡ j → slice_get found i ≡ Some f → is_ready p taken j f ≡ true
ready_at p taken k [] j i f e same at = cc
ready_at p taken k (g ∷ found) j i f e same at = go (is_ready p taken k g) refl e i same at (λ i e same at. ready_at p taken (k + 1) found j i f e same at)
  where
    go : (b : Bool) → is_ready p taken k g ≡ b → (if b then Some k else first_ready p taken (k + 1) found) ≡ Some j → (i : ℕ) → k + i ≡ j → slice_get (g ∷ found) i ≡ Some f
        → ((i : ℕ) → first_ready p taken (k + 1) found ≡ Some j → k + 1 + i ≡ j → slice_get found i ≡ Some f → is_ready p taken j f ≡ true) → is_ready p taken j f ≡ true
    go true ready e zero same at next =
        let here : k ≡ j = cc in
        let this : g ≡ f = cc in
        subst (λ n. is_ready p taken n f ≡ true) here (subst (λ (x : Found). is_ready p taken k x ≡ true) this ready)
    go true ready e (suc i) same at next = let here : k ≡ j = cc in absurd (omega (arith, here, same))
    go false ready e zero same at next = absurd (omega (arith, (next_is p taken (k + 1) found j e).from, same))
    go false ready e (suc i) same at next = next i e (omega (arith, same)) at

none_ready : (p : Progress) (taken : List ℕ) (k : ℕ) (found : List Found) (i : ℕ) (f : Found) → first_ready p taken k found ≡ None → slice_get found i ≡ Some f → is_ready p taken (k + i) f ≡ false
none_ready p taken k [] i f e at = cc
none_ready p taken k (g ∷ found) i f e at = go (is_ready p taken k g) refl e i at (λ i e at. none_ready p taken (k + 1) found i f e at)
  where
    go : (b : Bool) → is_ready p taken k g ≡ b → (if b then Some k else first_ready p taken (k + 1) found) ≡ None → (i : ℕ) → slice_get (g ∷ found) i ≡ Some f
        → ((i : ℕ) → first_ready p taken (k + 1) found ≡ None → slice_get found i ≡ Some f → is_ready p taken (k + 1 + i) f ≡ false) → is_ready p taken (k + i) f ≡ false
    go true ready e i at next = cc
    go false ready e zero at next =
        let here : k ≡ k + 0 = omega arith in
        let this : g ≡ f = cc in
        subst (λ n. is_ready p taken n f ≡ false) here (subst (λ (x : Found). is_ready p taken k x ≡ false) this ready)
    go false ready e (suc i) at next = let there : k + 1 + i ≡ k + suc i = omega arith in subst (λ n. is_ready p taken n f ≡ false) there (next i e at)

-- ** One before another

before_more : (xs ys : List ℕ) (k n : ℕ) → StandsBefore xs k n → StandsBefore (xs ++ ys) k n
before_more [] ys k n h = absurd h
before_more (x ∷ xs) ys k n h = (
  h.0,
  elim h.1 [
    | inl e ↦ inl e
    | inr r ↦ inr (before_more xs ys k n r)
  ],
)

before_new : (xs : List ℕ) (k n : ℕ) → IsIn k xs → (IsIn n xs → ⊥) → StandsBefore xs k n
before_new [] k n i new = absurd i
before_new (x ∷ xs) k n (inl e) new = ((λ s. new (inl (sym s))), inl (sym e))
before_new (x ∷ xs) k n (inr i) new = ((λ s. new (inl (sym s))), inr (before_new xs k n i (λ j. new (inr j))))

-- ** Round after round

none_distinct : IsDistinct nat_eq []
unfolding IsDistinct
none_distinct = tt

module _ (p : Progress) where
  -- each round takes one more, until none is left
  ended : (i : ℕ) → (length (taken_in p i) ≡ i) ⊎ (next_taken p (taken_in p i) ≡ None)
  ended zero = inl refl
  ended (suc i) = elim (ended i) [
    | inl many ↦ go (next_taken p (taken_in p i)) refl many
    | inr none ↦ inr (ap (λ o. next_taken p (and_taken (taken_in p i) o)) none ∙ none)
  ]
    where
      go : (o : Option ℕ) → next_taken p (taken_in p i) ≡ o → length (taken_in p i) ≡ i → (length (and_taken (taken_in p i) o) ≡ suc i) ⊎ (next_taken p (and_taken (taken_in p i) o) ≡ None)
      go None none many = inr none
      go (Some j) next many = inl (omega (arith, many, length-append (taken_in p i) (j ∷ [])))

  -- the main text is never taken, nor is any other twice
  never_twice : (i : ℕ) → IsDistinct nat_eq (0 ∷ taken_in p i)
  never_twice zero = IsDistinct-push nat_eq_equiv [] 0 none_distinct refl
  never_twice (suc i) = go (next_taken p (taken_in p i)) refl (never_twice i)
    where
      not_yet : (j : ℕ) (b : Bool) → list_any (nat_eq j) (0 ∷ taken_in p i) ≡ b → 0 < j → is_in (taken_in p i) j ≡ false → b ≡ false
      not_yet j false e later new = refl
      not_yet j true e later new = elim (any_among (0 ∷ taken_in p i) j e) [
        | inl zero_is ↦ absurd (omega (arith, zero_is, later))
        | inr there ↦ absurd (not_in (taken_in p i) j new there)
      ]

      go : (o : Option ℕ) → next_taken p (taken_in p i) ≡ o → IsDistinct nat_eq (0 ∷ taken_in p i) → IsDistinct nat_eq (0 ∷ and_taken (taken_in p i) o)
      go None e h = h
      go (Some j) e h =
          let next = next_is p (taken_in p i) 1 (definitions p.found) j e in
          IsDistinct-push nat_eq_equiv (0 ∷ taken_in p i) j h (not_yet j (list_any (nat_eq j) (0 ∷ taken_in p i)) refl (omega (arith, next.from)) next.new)

  -- so at the end none is left that is ready
  pub none_left : 0 < length p.found → next_taken p (dependency_order p) ≡ None
  none_left some = elim (ended (length p.found)) [
    | inl many ↦ absurd (omega (arith, many, length-le_from_distinct_below (0 ∷ dependency_order p) (length p.found) (never_twice (length p.found)) below))
    | inr none ↦ none
  ]
    where
      below : (q : ℕ) → list_any (nat_eq q) (0 ∷ dependency_order p) ≡ true → q < length p.found
      below q h = elim (any_among (0 ∷ dependency_order p) q h) [
        | inl zero_is ↦ omega (arith, zero_is, some)
        | inr there ↦ (each_in (λ k. (0 < k) × (k < length p.found)) (dependency_order p) q there (order_sound p (length p.found) some).ordered).1
      ]

  -- a definition text that needs none is taken
  pub free_taken : 0 < length p.found → (i : ℕ) (f : Found) → slice_get (definitions p.found) i ≡ Some f → needs_of p f ≡ [] → is_in (dependency_order p) (1 + i) ≡ true
  free_taken some i f at none = go (is_in (dependency_order p) (1 + i)) refl
    where
      left : is_ready p (dependency_order p) (1 + i) f ≡ false
      left = none_ready p (dependency_order p) 1 (definitions p.found) i f (none_left some) at

      go : (b : Bool) → is_in (dependency_order p) (1 + i) ≡ b → b ≡ true
      go true e = refl
      go false e =
          let ready : is_ready p (dependency_order p) (1 + i) f ≡ true =
          ap (λ b. not b && all_in (dependency_order p) (needs_of p f)) e ∙ ap (all_in (dependency_order p)) none in
          absurd (true≢false (sym ready ∙ left))

  -- what a definition text needs comes before it
  pub needs_before : (rounds i k : ℕ) (f : Found) → slice_get (definitions p.found) i ≡ Some f → IsIn k (needs_of p f) → IsIn (1 + i) (taken_in p rounds) → StandsBefore (taken_in p rounds) k (1 + i)
  needs_before zero i k f at needed there = absurd there
  needs_before (suc rounds) i k f at needed there = go (next_taken p (taken_in p rounds)) refl there (needs_before rounds i k f at needed)
    where
      go : (o : Option ℕ) → next_taken p (taken_in p rounds) ≡ o → IsIn (1 + i) (and_taken (taken_in p rounds) o)
          → (IsIn (1 + i) (taken_in p rounds) → StandsBefore (taken_in p rounds) k (1 + i)) → StandsBefore (and_taken (taken_in p rounds) o) k (1 + i)
      go None e there before = before there
      go (Some j) e there before = before_more (taken_in p rounds) (j ∷ []) k (1 + i) (elim (in_either (taken_in p rounds) j (1 + i) there) [
        | inl old ↦ before old
        | inr this ↦
            let ready = ready_at p (taken_in p rounds) 1 (definitions p.found) j i f e this at in
            let new = left_true (is_in (taken_in p rounds) j) _ ready in
            let taken = (and_parts (not (is_in (taken_in p rounds) j)) (all_in (taken_in p rounds) (needs_of p f)) ready).1 in
            before_new (taken_in p rounds) k (1 + i) (all_among (taken_in p rounds) (needs_of p f) k taken needed) (subst (λ n. IsIn n (taken_in p rounds) → ⊥) (sym this) (not_in (taken_in p rounds) j new))
      ])
