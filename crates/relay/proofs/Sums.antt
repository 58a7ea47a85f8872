-- What is added up over the views of all passes.
use Rattle.std.proofs.Common.{◌≡◌, ◌≢◌, ℕ, zero, suc, ◌+◌, ◌<◌, ◌≤◌, List, [], ◌∷◌, length, set, sum_by, sym, refl, ap, ⊎_elim, subst, arith, map}
use Rattle.std.proofs.lemmas.List.Sums.{sum_by-cons}
use Rattle.std.specs.List.{Contains}
use Rattle.std.specs.Prelude.{slice_index_or}
use mathlib.Core.Option.{some, some-injective, some-ne-none}
use lib.ListN.{get_elem?}
use Rattle.crossbeam_queue.proofs.Lists.{at_set}

module _ {B : Type 0} where
  -- one view becomes another
  pub sum-set : (f : B → ℕ) (vs : List B) (i : ℕ) (v w : B) → get_elem? vs i ≡ some v → sum_by f (set vs i w) + f v ≡ sum_by f vs + f w
  sum-set f [] i v w e = absurd (some-ne-none v (sym e))
  sum-set f (x ∷ xs) zero v w e =
      let is : f x ≡ f v = ap f (some-injective x v e) in
      let a = sum_by-cons f x xs in let b = sum_by-cons f w xs in omega arith
  sum-set f (x ∷ xs) (suc i) v w e =
      let r = sum-set f xs i v w e in
      let a = sum_by-cons f x xs in let b = sum_by-cons f x (set xs i w) in omega arith

  -- one of them is within the sum
  pub sum-at : (f : B → ℕ) (vs : List B) (i : ℕ) (v : B) → get_elem? vs i ≡ some v → f v ≤ sum_by f vs
  sum-at f [] i v e = absurd (some-ne-none v (sym e))
  sum-at f (x ∷ xs) zero v e = let is : f x ≡ f v = ap f (some-injective x v e) in let a = sum_by-cons f x xs in omega arith
  sum-at f (x ∷ xs) (suc i) v e = let r = sum-at f xs i v e in let a = sum_by-cons f x xs in omega arith

  -- two of them are within the sum
  pub sum-two : (f : B → ℕ) (vs : List B) (i k : ℕ) (v w : B) → i ≢ k → get_elem? vs i ≡ some v → get_elem? vs k ≡ some w → f v + f w ≤ sum_by f vs
  sum-two f [] i k v w n e e' = absurd (some-ne-none v (sym e))
  sum-two f (x ∷ xs) zero zero v w n e e' = absurd (n refl)
  sum-two f (x ∷ xs) zero (suc k) v w n e e' =
      let is : f x ≡ f v = ap f (some-injective x v e) in let r = sum-at f xs k w e' in let a = sum_by-cons f x xs in omega arith
  sum-two f (x ∷ xs) (suc i) zero v w n e e' =
      let is : f x ≡ f w = ap f (some-injective x w e') in let r = sum-at f xs i v e in let a = sum_by-cons f x xs in omega arith
  sum-two f (x ∷ xs) (suc i) (suc k) v w n e e' =
      let r = sum-two f xs i k v w (λ h. n (ap suc h)) e e' in let a = sum_by-cons f x xs in omega arith

  none : (f : B → ℕ) (vs : List B) → ((k : ℕ) (u : B) → get_elem? vs k ≡ some u → f u ≡ 0) → sum_by f vs ≡ 0
  none f [] z = refl
  none f (x ∷ xs) z = let a = z 0 x refl in let r = none f xs (λ k. z (suc k)) in let b = sum_by-cons f x xs in omega arith

  -- where all others give 0, the sum is what one gives
  pub sum-alone : (f : B → ℕ) (vs : List B) (i : ℕ) (v : B) → ((k : ℕ) (u : B) → get_elem? vs k ≡ some u → k ≢ i → f u ≡ 0) → get_elem? vs i ≡ some v → sum_by f vs ≡ f v
  sum-alone f [] i v z e = absurd (some-ne-none v (sym e))
  sum-alone f (x ∷ xs) zero v z e =
      let is : f x ≡ f v = ap f (some-injective x v e) in
      let r = none f xs (λ k u at. z (suc k) u at (λ h. absurd (omega arith))) in
      let a = sum_by-cons f x xs in omega arith
  sum-alone f (x ∷ xs) (suc i) v z e =
      let o = z 0 x refl (λ h. absurd (omega arith)) in
      let r = sum-alone f xs i v (λ k u at n. z (suc k) u at (λ h. n (omega arith))) e in
      let a = sum_by-cons f x xs in omega arith

  -- what holds of the new view and of the others holds of all
  pub each-set : (P : B → Type 0) (vs : List B) (i : ℕ) (w : B) → P w → ((k : ℕ) (d : B) → k ≢ i → get_elem? vs k ≡ some d → P d)
      → (k : ℕ) (d : B) → get_elem? (set vs i w) k ≡ some d → P d
  each-set P vs i w mine others k d e =
      ⊎_elim (λ (t : (k ≡ i) × (w ≡ d)). subst P t.1 mine) (λ (t : (k ≢ i) × (get_elem? vs k ≡ some d)). others k d t.0 t.1) (at_set vs i k w d e)

  pub sum-map : {C : Type 0} (g : C → ℕ) (f : B → C) (vs : List B) → sum_by g (map f vs) ≡ sum_by (λ v. g (f v)) vs
  sum-map g f [] = refl
  sum-map g f (x ∷ xs) = let r = sum-map g f xs in let a = sum_by-cons g (f x) (map f xs) in let b = sum_by-cons (λ v. g (f v)) x xs in omega arith

  pub contains-at : {C : Type 0} (f : B → C) (vs : List B) (i : ℕ) (v : B) → get_elem? vs i ≡ some v → Contains (map f vs) (f v)
  contains-at f [] i v e = absurd (some-ne-none v (sym e))
  contains-at f (x ∷ xs) zero v e = (0, omega arith, ap f (some-injective x v e))
  contains-at f (x ∷ xs) (suc i) v e = let r = contains-at f xs i v e in (suc r.0, (let l = r.1 in omega arith), r.2)

  -- the sum stays, where each gives what the one at its place gave
  pub sum-each : (f : B → ℕ) (before after : List B) → length after ≡ length before
      → ((k : ℕ) (d : B) → k < length before → f (slice_index_or after k d) ≡ f (slice_index_or before k d)) → sum_by f after ≡ sum_by f before
  sum-each f [] [] long same = refl
  sum-each f [] (y ∷ ys) long same = absurd (omega arith)
  sum-each f (x ∷ xs) [] long same = absurd (omega arith)
  sum-each f (x ∷ xs) (y ∷ ys) long same =
      let first = same 0 x (omega arith) in
      let rest = sum-each f xs ys (omega arith) (λ k d l. same (suc k) d (omega arith)) in
      let a = sum_by-cons f x xs in let b = sum_by-cons f y ys in omega arith
