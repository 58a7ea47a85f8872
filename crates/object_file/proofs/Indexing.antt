-- An export more in the index.
use Rattle.std.proofs.Common.{◌≡◌, ◌≢◌, ℕ, List, [], ◌∷◌, ◌++◌, Bool, true, false, cond, eqb, Option, Some, None, refl, sym, ap, ◌∙◌, ◌⊎◌, inl, inr, arith}
use Rattle.std.specs.Prelude.{◌&&◌, ◌||◌, not}
use Rattle.std.specs.List.{list_all}
use Rattle.std.specs.Ordering.{nat_cmp}
use Rattle.std.specs.BTreeMap.{BTreeMap, is_at}
use Rattle.std.proofs.lemmas.Bool.Decides.{eqb_tells, nat_tests}
use Rattle.object_file.specs.declared.wanted.Wanted.{Wanted}
use Rattle.object_file.specs.Contents.{Export}
use Rattle.object_file.specs.Exported.{both, merged, agrees, admits_outer, admits_params, admits_result, IsIndex, found_in}
use Rattle.object_file.specs.ObjectFormat.{as_exported}

all_more : (f : Export → Bool) (es : List Export) (e : Export) → list_all f (es ++ e ∷ []) ≡ list_all f es && f e
all_more f [] e = last (f e) where
  last : (b : Bool) → b && true ≡ b
  last true = refl
  last false = refl
all_more f (x ∷ es) e = ap (λ (b : Bool). f x && b) (all_more f es e) ∙ grouped (f x) (list_all f es) (f e) where
  grouped : (a b c : Bool) → a && (b && c) ≡ (a && b) && c
  grouped true b c = refl
  grouped false b c = refl

-- one that is asked besides
agrees_both : (o : Option ℕ) (m n : ℕ) → agrees (both o m) n ≡ agrees o n && eqb n m
agrees_both None m n = refl
agrees_both (Some k) m n = chosen (eqb_tells k m) (eqb_tells n k) (eqb_tells n m) where
  same : (b : Bool) → b ≡ b && b
  same true = refl
  same false = refl

  chosen : ((eqb k m ≡ true) × (k ≡ m)) ⊎ ((eqb k m ≡ false) × (k ≢ m)) → ((eqb n k ≡ true) × (n ≡ k)) ⊎ ((eqb n k ≡ false) × (n ≢ k)) → ((eqb n m ≡ true) × (n ≡ m)) ⊎ ((eqb n m ≡ false) × (n ≢ m))
      → agrees (cond (eqb k m) (Some k) None) n ≡ eqb n k && eqb n m
  chosen (inl h) b c = rw h.0 (same (eqb n k) ∙ ap (λ (x : ℕ). eqb n k && eqb n x) h.1)
  chosen (inr h) (inl b) (inl c) = absurd (h.1 (sym b.1 ∙ c.1))
  chosen (inr h) (inl b) (inr c) = rw (h.0, b.0, c.0) refl
  chosen (inr h) (inr b) c = rw (h.0, b.0) refl

record Grows (test : Export → Bool) (admits : Option Wanted → Bool) (e : Export) : Type 0 where
  first : admits (Some (merged None e)) ≡ test e
  more : (w : Wanted) → admits (Some (merged (Some w) e)) ≡ admits (Some w) && test e
  none : admits None ≡ true

true_and : (b : Bool) → b ≡ true && b
true_and b = refl

and_true : (b : Bool) → b ≡ b && true
and_true true = refl
and_true false = refl

-- with the export more, at each procedure
grown : (test : Export → Bool) (admits : Option Wanted → Bool) (es : List Export) (e : Export) (k : ℕ) (found : ℕ → Option Wanted) (now : Option Wanted) → Grows test admits e
    → as_exported es k test ≡ admits (found k) → now ≡ cond (eqb e.0 k) (Some (merged (found e.0) e)) (found k) → as_exported (es ++ e ∷ []) k test ≡ admits now
unfolding as_exported
grown test admits es e k found now g h is =
    all_more (λ x. not (eqb x.0 k) || test x) es e ∙ ap (λ (b : Bool). b && (not (eqb e.0 k) || test e)) h ∙ chosen (eqb_tells e.0 k) ∙ sym (ap admits is)
  where
    known : (o : Option Wanted) → admits o && test e ≡ admits (Some (merged o e))
    known None = ap (λ (b : Bool). b && test e) g.none ∙ sym g.first
    known (Some w) = sym (g.more w)

    chosen : ((eqb e.0 k ≡ true) × (e.0 ≡ k)) ⊎ ((eqb e.0 k ≡ false) × (e.0 ≢ k)) → admits (found k) && (not (eqb e.0 k) || test e) ≡ admits (cond (eqb e.0 k) (Some (merged (found e.0) e)) (found k))
    chosen (inl c) = rw c.0 (ap (λ (x : ℕ). admits (found x) && test e) (sym c.1) ∙ known (found e.0))
    chosen (inr c) = rw c.0 (sym (and_true (admits (found k))))

pub IsIndex-more : (es : List Export) (e : Export) (found now : ℕ → Option Wanted) → IsIndex es found → ((k : ℕ) → now k ≡ cond (eqb e.0 k) (Some (merged (found e.0) e)) (found k)) → IsIndex (es ++ e ∷ []) now
IsIndex-more es e found now h is = record {
  outer = λ k n. grown (λ x. eqb n 0) (λ o. admits_outer o n) es e k found (now k) (record { first = refl; more = λ w. twice (eqb n 0); none = refl }) (h.outer k n) (is k);
  params = λ k n. grown (λ x. eqb n x.1) (λ o. admits_params o n) es e k found (now k) (record { first = refl; more = λ w. agrees_both w.params e.1 n; none = refl }) (h.params k n) (is k);
  result = λ k n. grown (λ x. eqb n x.2) (λ o. admits_result o n) es e k found (now k) (record { first = refl; more = λ w. agrees_both w.result e.2 n; none = refl }) (h.result k n) (is k);
}
  where
    twice : (b : Bool) → b ≡ b && b
    twice true = refl
    twice false = refl

pub IsIndex-nil : (es : List Export) (m : BTreeMap ℕ Wanted) → es ≡ [] → m.entries ≡ [] → IsIndex es (found_in m)
unfolding as_exported
IsIndex-nil es m none empty = rw none (record { outer = λ k n. rw empty refl; params = λ k n. rw empty refl; result = λ k n. rw empty refl })

pub at-eqb : (a b : ℕ) → is_at (nat_cmp a) b ≡ eqb a b
at-eqb a b = grind (arith, nat_tests)
