-- Hands that are joined one after another, and jobs in the order of their numbers.
use Rattle.std.proofs.Common.{◌≡◌, ◌≢◌, ℕ, zero, suc, ◌+◌, ◌<◌, ◌≤◌, List, [], ◌∷◌, ◌++◌, All, Some, length, map, get_or, sum_by, cond, eqb, eq-eqb, ne_eqb, sym, refl, ap, ◌∙◌, subst, arith}
use Rattle.std.specs.List.{range_with_len}
use Rattle.std.specs.List.Sorted.{IsNonDecreasingBy, IsPermutation}
use Rattle.std.proofs.lemmas.List.{length-map}
use Rattle.std.proofs.lemmas.List.FromFn.{length-range_with_len}
use Rattle.std.proofs.lemmas.List.Elements.{All-tail, All-head, All-pop}
use Rattle.std.proofs.lemmas.List.Sums.{sum_by-cons, sum_by_push}
use Rattle.std.proofs.lemmas.List.Sorted.{sum_by-IsPermutation}
use mathlib.Core.Logic.{dite}
use native.Mathlib.Decide.{ℕ_discrete}
use Rattle.relay.specs.Places.{times, numbers_to, ComesFrom}
use Rattle.relay.specs.Hands.{AreLater}
use Rattle.relay.proofs.Sums.{sum-map}
use Rattle.relay.proofs.Comings.{same, times-append}
use Rattle.relay.proofs.Dealt.{number-at}

-- ** Lists that loops go over, one by one

pub uncons : {A : Type 0} (P : A → Type 0) (items : List A) (h : A) (rest : List A) → items ≡ h ∷ rest → All P items → P h × All P rest
uncons {A} P items h rest e a = let b = subst (λ (xs : List A). All P xs) e a in (All-head P h rest b, All-tail P h rest b)

pub less : {A : Type 0} (f : A → ℕ) (items : List A) (h : A) (rest : List A) → items ≡ h ∷ rest → sum_by f items ≡ f h + sum_by f rest
less f items h rest e = ap (sum_by f) e ∙ sum_by-cons f h rest

pub popped : {A : Type 0} (P : A → Type 0) (f : A → ℕ) (hands rest items : List A) (h : A) (n : ℕ) → hands ≡ rest ++ h ∷ [] → items ≡ rest → All P hands → sum_by f hands ≡ n
    → P h × All P items × (f h + sum_by f items ≡ n)
popped {A} P f hands rest items h n e i all t =
    let a = All-pop P hands rest (Some h) e all in
    (a.1, subst (λ (xs : List A). All P xs) (sym i) a.0, (let u = ap (sum_by f) i in let v = ap (sum_by f) e in let s = sum_by_push f rest h in omega arith))

-- ** Order

one : (x : ℕ) → same x x ≡ 1
one x = ap (λ b. 0 + cond b 1 0) (eq-eqb x x refl)

none : (x y : ℕ) → x ≢ y → same x y ≡ 0
none x y n = ap (λ b. 0 + cond b 1 0) (ne_eqb y x (λ h. n (sym h)))

cons : (x y : ℕ) (ys : List ℕ) → times x (y ∷ ys) ≡ same x y + times x ys
cons x y ys = times-append x (y ∷ []) ys

from : (x k n : ℕ) → 0 < times x (range_with_len k n) → k ≤ x
from x k zero h = absurd (omega arith)
from x k (suc n) h =
    let c = cons x k (range_with_len (k + 1) n) in
    dite (ℕ_discrete x k) (λ (e : x ≡ k). omega arith) (λ m. let z = none x k m in let r = from x (k + 1) n (omega arith) in omega arith)

abbrev Rises : List ℕ → Type 0
Rises [] = Unit {0}
Rises (y ∷ ys) = ((z : ℕ) → 0 < times z ys → y ≤ z) × Rises ys

-- a rising list with these numbers, each as often, is in their order
only : (n k : ℕ) (ns : List ℕ) → Rises ns → ((x : ℕ) → times x ns ≡ times x (range_with_len k n)) → ns ≡ range_with_len k n
only zero k [] r h = refl
only zero k (y ∷ ys) r h = let a = h y in let b = one y in let c = cons y y ys in absurd (omega arith)
only (suc n) k [] r h = let a = h k in let b = one k in let c = cons k k (range_with_len (k + 1) n) in absurd (omega arith)
only (suc n) k (y ∷ ys) r h =
    let rest = range_with_len (k + 1) n in
    let b = one y in let c = one k in let hy = h y in let hk = h k in
    let low : k ≤ y = from y k (suc n) (let a = cons y y ys in omega arith) in
    let high : y ≤ k = dite (ℕ_discrete k y) (λ (e : k ≡ y). omega arith)
    (λ m. let z = none k y m in let a = cons k y ys in let d = cons k k rest in r.0 k (omega arith)) in
    let e : y ≡ k = omega arith in
    let t : ys ≡ rest = only n (k + 1) ys r.1 (λ x.
    let a = h x in let u = cons x y ys in let v = cons x k rest in let w : same x y ≡ same x k = ap (same x) e in omega arith) in
    λ i. e i ∷ t i

module _ {A : Type 0} (number : A → ℕ) where
  at_times : (z : ℕ) (js : List A) (d : A) → 0 < times z (map number js) → (i : ℕ) × (i < length js) × (number (get_or js i d) ≡ z)
  at_times z [] d h = absurd (omega arith)
  at_times z (j ∷ js) d h =
      let c = cons z (number j) (map number js) in
      dite (ℕ_discrete z (number j)) (λ e. (0, omega arith, sym e))
      (λ m. let w = none z (number j) m in let r = at_times z js d (omega arith) in (suc r.0, (let l = r.1 in omega arith), r.2))

  rises : (js : List A) → IsNonDecreasingBy number js → Rises (map number js)
  rises [] h = tt
  rises (j ∷ js) h = (
    (λ z o. let a = at_times z js j o in let b = h 0 (suc a.0) j (omega arith) (let l = a.1 in omega arith) in let e = a.2 in omega arith),
    rises js (λ i k d l m. h (suc i) (suc k) d (omega arith) (omega arith)),
  )

  -- jobs that are in order, and have each number once
  pub in_order : (js ks : List A) (n : ℕ) → IsPermutation js ks → IsNonDecreasingBy number ks → ((x : ℕ) → times x (map number js) ≡ times x (numbers_to n))
      → map number ks ≡ numbers_to n
  in_order js ks n p r h = only n 1 (map number ks) (rises ks r) (λ x.
      let one_of : ℕ → ℕ = λ y. cond (eqb y x) 1 0 in
      sum-map one_of number ks ∙ sum_by-IsPermutation (λ j. one_of (number j)) js ks p ∙ sym (sum-map one_of number js) ∙ h x)

  -- each comes from the job at its place
  pub are_later : (stays : A → A → Type 0) (jobs later : List A) → ((job later : A) → stays job later → number later ≡ number job)
      → map number jobs ≡ numbers_to (length jobs) → map number later ≡ numbers_to (length jobs) → All (ComesFrom stays jobs) later → AreLater stays jobs later
  are_later stays jobs later law order order' all =
      let long : length later ≡ length jobs = sym (length-map later number) ∙ ap length order' ∙ length-range_with_len 1 (length jobs) in
      let order'' : map number later ≡ numbers_to (length later) = order' ∙ ap numbers_to (sym long) in record {
        many = long;
        each = λ k d l.
            let job = get_or later k d in let c = all k d (omega arith) in let i = c.1.0 in
            let mine = number-at number later k d order'' (omega arith) in
            let its = ap number (sym c.1.2) ∙ number-at number jobs i c.0 order c.1.1 in
            let n = law c.0 job c.2 in
            let e : i ≡ k = omega arith in
            subst (λ (first : A). stays first job) (sym c.1.2 ∙ there jobs i k c.0 d e c.1.1) c.2;
      }
    where
      there : (js : List A) (i k : ℕ) (a b : A) → i ≡ k → i < length js → get_or js i a ≡ get_or js k b
      there js i k a b e l = ap (λ m. get_or js m a) e ∙ default js k a b (omega arith)
        where
          default : (js : List A) (k : ℕ) (a b : A) → k < length js → get_or js k a ≡ get_or js k b
          default [] k a b l = absurd (omega arith)
          default (j ∷ js) zero a b l = refl
          default (j ∷ js) (suc k) a b l = default js k a b (omega arith)
