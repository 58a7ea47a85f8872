-- A unit has no more definition modules in its order than it has texts.
use Rattle.std.specs.Prelude.{◌≡◌, ◌≢◌, ℕ, zero, suc, ◌<◌, ◌≤◌, ◌==◌, Bool, true, false, cond, List, [], ◌∷◌, length}
use Rattle.std.proofs.Common.{refl, sym, subst, inl, inr, arith}
use Rattle.m2_base.specs.Lists.{Each, IsIn}
use Rattle.m2_base.specs.Units.{AllDiffer, IsUnit, UnitTexts}

same : (m n : ℕ) → (m == n) ≡ true → m ≡ n
same m n h = grind arith

other : (m n : ℕ) → (m == n) ≡ false → m ≢ n
other m n h = grind arith

-- the numbers without the first n
abbrev without : (n : ℕ) → List ℕ → List ℕ
without n [] = []
without n (x ∷ xs) = cond (x == n) xs (x ∷ without n xs)

without_long : (n : ℕ) (xs : List ℕ) → length xs ≤ suc (length (without n xs))
without_long n [] = omega arith
without_long n (x ∷ xs) = by (x == n) (without_long n xs)
  where
    by : (b : Bool) → length xs ≤ suc (length (without n xs)) → suc (length xs) ≤ suc (length (cond b xs (x ∷ without n xs)))
    by true h = omega arith
    by false h = omega (arith, h)

was_in : (n y : ℕ) (xs : List ℕ) → IsIn y (without n xs) → IsIn y xs
was_in n y [] h = absurd h
was_in n y (x ∷ xs) h = by (x == n) (was_in n y xs) h
  where
    by : (b : Bool) → (IsIn y (without n xs) → IsIn y xs) → IsIn y (cond b xs (x ∷ without n xs)) → IsIn y (x ∷ xs)
    by true f i = inr i
    by false f (inl e) = inl e
    by false f (inr i) = inr (f i)

still_differ : (n : ℕ) (xs : List ℕ) → AllDiffer xs → AllDiffer (without n xs)
still_differ n [] h = tt
still_differ n (x ∷ xs) h = by (x == n) (still_differ n xs h.1)
  where
    by : (b : Bool) → AllDiffer (without n xs) → AllDiffer (cond b xs (x ∷ without n xs))
    by true d = h.1
    by false d = (λ i. h.0 (was_in n x xs i), d)

-- without n, numbers up to n are below n
below : (n x : ℕ) → x < suc n → x ≢ n → x < n
below n x h k = grind arith

each_below : (n : ℕ) (xs : List ℕ) → (IsIn n xs → ⊥) → Each (λ x. x < suc n) xs → Each (λ x. x < n) xs
each_below n [] k h = tt
each_below n (x ∷ xs) k h = (below n x h.0 (λ e. k (inl (sym e))), each_below n xs (λ i. k (inr i)) h.1)

all_below : (n : ℕ) (xs : List ℕ) → AllDiffer xs → Each (λ x. x < suc n) xs → Each (λ x. x < n) (without n xs)
all_below n [] d h = tt
all_below n (x ∷ xs) d h = by (x == n) (all_below n xs d.1 h.1) refl
  where
    by : (b : Bool) → Each (λ x. x < n) (without n xs) → (x == n) ≡ b → Each (λ x. x < n) (cond b xs (x ∷ without n xs))
    by true rest e = each_below n xs (subst (λ (m : ℕ). IsIn m xs → ⊥) (same x n e) d.0) h.1
    by false rest e = (below n x h.0 (other x n e), rest)

-- so many numbers below n are different
pub few_below : (n : ℕ) (xs : List ℕ) → AllDiffer xs → Each (λ x. x < n) xs → length xs ≤ n
few_below zero [] d h = omega arith
few_below zero (x ∷ xs) d h = let low = h.0 in absurd (omega (arith, low))
few_below (suc n) xs d h =
    let few = few_below n (without n xs) (still_differ n xs d) (all_below n xs d h) in
    let long = without_long n xs in
    omega (arith, few, long)

in_texts : (texts : ℕ) (order : List ℕ) → texts ≤ 257 → Each (λ k. (0 < k) × (k < texts)) order → Each (λ k. k < 257) order
in_texts texts [] few h = tt
in_texts texts (k ∷ order) few h = (let low = h.0.1 in omega (arith, few, low), in_texts texts order few h.1)

pub order_few : (texts : UnitTexts) → IsUnit texts → length texts.order ≤ 257
order_few texts unit = few_below 257 texts.order unit.once (in_texts (length texts.list) texts.order unit.few unit.ordered)
