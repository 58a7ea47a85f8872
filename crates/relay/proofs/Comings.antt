-- Numbers and jobs that come, one after another.
use Rattle.std.proofs.Common.{◌≡◌, ℕ, ◌+◌, List, [], ◌∷◌, ◌++◌, map, sym, refl, ap, ◌∙◌, arith, cond, eqb}
use Rattle.std.proofs.lemmas.List.{map-append, map-id}
use Rattle.std.proofs.lemmas.List.FromFn.{map-range_with_len_more}
use Rattle.std.proofs.lemmas.List.Sums.{sum_by-append}
use Rattle.std.proofs.lemmas.List.Elements.{Contains-append_left}
use Rattle.relay.specs.Places.{times, numbers_to, without_last, ComesFrom}

-- how often x is y
abbrev pub same : (x y : ℕ) → ℕ
same x y = times x (y ∷ [])

pub times-push : (x : ℕ) (ys : List ℕ) (y : ℕ) → times x (ys ++ y ∷ []) ≡ times x ys + same x y
times-push x ys y = sum_by-append (λ z. cond (eqb z x) 1 0) ys (y ∷ [])

pub times-append : (x : ℕ) (ys zs : List ℕ) → times x (ys ++ zs) ≡ times x ys + times x zs
times-append x ys zs = sum_by-append (λ z. cond (eqb z x) 1 0) ys zs

pub numbers-more : (n : ℕ) → numbers_to (n + 1) ≡ numbers_to n ++ (n + 1) ∷ []
numbers-more n =
    sym (map-id (numbers_to (n + 1))) ∙ map-range_with_len_more (λ k. k) 1 n (n + 1) (omega arith) ∙ ap (λ ns. ns ++ (n + 1) ∷ []) (map-id (numbers_to n))

pub without_last-push : (ys : List ℕ) (x : ℕ) → without_last (ys ++ x ∷ []) ≡ ys
without_last-push [] x = refl
without_last-push (y ∷ []) x = refl
without_last-push (y ∷ z ∷ zs) x = ap (λ l. y ∷ l) (without_last-push (z ∷ zs) x)

module _ {A : Type 0} (number : A → ℕ) where
  pub times-push_job : (x : ℕ) (items : List A) (job : A) → times x (map number (items ++ job ∷ [])) ≡ times x (map number items) + same x (number job)
  times-push_job x items job = ap (times x) (map-append number items (job ∷ [])) ∙ times-push x (map number items) (number job)

module _ {A : Type 0} (stays : A → A → Type 0) where
  -- another job came
  pub comes-more : (jobs : List A) (other job : A) → ComesFrom stays jobs job → ComesFrom stays (jobs ++ other ∷ []) job
  comes-more jobs other job c = (c.0, Contains-append_left jobs (other ∷ []) c.0 c.1, c.2)
