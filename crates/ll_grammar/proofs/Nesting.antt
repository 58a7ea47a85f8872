-- How deep the tokens of a derivation are nested.
use Rattle.std.proofs.Common.{◌≡◌, ℕ, zero, suc, ◌+◌, ◌≤◌, arith, true, List, [], ◌∷◌, ◌++◌, refl, sym, ap, ◌∙◌, append_assoc, ◌⊎◌, inl, inr, ⊎_elim, Option, Some, None}
use Rattle.std.proofs.lemmas.List.{append-nil}
use Rattle.ll_grammar.specs.Grammar.{Rule, Grammar}
use Rattle.ll_grammar.specs.Derivations.{Tree, nothing, leaf, both, left, right, last, more, inner, part, tokens, Derives, of_empty, of_token, of_then, of_left, of_right, of_last, of_more, of_deep, of_sub, over, first_of}
use Rattle.ll_grammar.specs.LookAhead.{member, first, firsts, IsLL1}
use Rattle.ll_grammar.proofs.Beginnings.{starts_some}
use Rattle.ll_grammar.proofs.Checks.{solid, first_within}
use Rattle.ll_grammar.proofs.FirstTokens.{starts_first}
use Rattle.ll_grammar.proofs.OneFault.{none_some, some_is}
use Rattle.ll_grammar.proofs.Soundness.{none_both}

module _ {T : Type 0} where
  pub first_none : (u : List T) (o p : Option (List T)) → first_of u o p ≡ None → (o ≡ None) × (p ≡ None)
  first_none u None None h = (refl, refl)
  first_none u None (Some v) h = absurd (none_some _ h)
  first_none u (Some v) p h = absurd (none_some _ h)

  -- the first too deep token lies in the one part or in the other
  pub first_some : (u : List T) (o p : Option (List T)) (v : List T) → first_of u o p ≡ Some v
      → (o ≡ Some v) ⊎ ((o ≡ None) × ((w : List T) × (p ≡ Some w) × (v ≡ u ++ w)))
  first_some u (Some x) p v h = inl h
  first_some u None None v h = absurd (none_some v (sym h))
  first_some u None (Some x) v h = inr (refl, (x, refl, sym (some_is (u ++ x) v h)))

  -- the number of counted rules
  abbrev pub count : Tree T → ℕ
  count nothing = zero
  count (leaf t) = zero
  count (both d e) = count d + count e
  count (left d) = count d
  count (right d) = count d
  count last = zero
  count (more d ds) = count d + count ds
  count (inner d) = suc (count d)
  count (part d) = count d

  -- no token lies in more counted rules than there are
  pub within_count : (d : Tree T) (n : ℕ) → count d ≤ n → over n d ≡ None
  within_count nothing n h = refl
  within_count (leaf t) n h = refl
  within_count (both d e) n h = none_both _ _ _ (within_count d n (omega (arith, h))) (within_count e n (omega (arith, h)))
  within_count (left d) n h = within_count d n h
  within_count (right d) n h = within_count d n h
  within_count last n h = refl
  within_count (more d ds) n h = none_both _ _ _ (within_count d n (omega (arith, h))) (within_count ds n (omega (arith, h)))
  within_count (inner d) zero h = let no : ⊥ = omega (arith, h) in absurd no
  within_count (inner d) (suc n) h = within_count d n (omega (arith, h))
  within_count (part d) n h = within_count d n h

-- The first token that is nested too deep: it stands behind u, and begins a numbered rule.
pub record DeepToken {T : Type 0} (g : Grammar T) (d : Tree T) (u : List T) : Type 0 where
  pub number : ℕ
  pub token : T
  pub behind : List T
  pub is : tokens d ≡ u ++ (token ∷ behind)
  pub begins : member (g.kind token) (firsts g number) ≡ true

module _ {T : Type 0} (g : Grammar T) where
  in_first : (d e : Tree T) (u : List T) → DeepToken g d u → DeepToken g (both d e) u
  in_first d e u i =
      record { number = i.number; token = i.token; behind = i.behind ++ tokens e; is = ap (λ w. w ++ tokens e) i.is ∙ append_assoc u (i.token ∷ i.behind) (tokens e); begins = i.begins }

  in_second : (d e : Tree T) (u v : List T) → v ≡ tokens d ++ u → DeepToken g e u → DeepToken g (both d e) v
  in_second d e u v h i =
      record { number = i.number; token = i.token; behind = i.behind; is = ap (λ w. tokens d ++ w) i.is ∙ sym (append_assoc (tokens d) u (i.token ∷ i.behind)) ∙ ap (λ w. w ++ (i.token ∷ i.behind)) (sym h); begins = i.begins }

  as_is : (d e : Tree T) (u : List T) → tokens e ≡ tokens d → DeepToken g d u → DeepToken g e u
  as_is d e u h i = record { number = i.number; token = i.token; behind = i.behind; is = h ∙ i.is; begins = i.begins }

  module _ (ok : IsLL1 g) where
    at_limit : (m : ℕ) {d : Tree T} (u : List T) → Derives g (g.rule m) d → [] ≡ u → DeepToken g (inner d) u
    at_limit m {d} u p h =
        let i = starts_some g (first g (g.rule m)) (tokens d ++ []) (starts_first g ok p (solid g ok m) [] [] tt) in
        record { number = m; token = i.0; behind = i.1; is = sym (append-nil (tokens d)) ∙ i.2 ∙ ap (λ w. w ++ (i.0 ∷ i.1)) h; begins = first_within g ok m (g.kind i.0) i.3 }

    pub deep_token : {r : Rule} {d : Tree T} → Derives g r d → (n : ℕ) (u : List T) → over n d ≡ Some u → DeepToken g d u
    deep_token of_empty n u h = absurd (none_some u (sym h))
    deep_token (of_token m) n u h = absurd (none_some u (sym h))
    deep_token (of_then {d = d} {e = e} p q) n u h =
        ⊎_elim (λ i. in_first d e u (deep_token p n u i)) (λ i. in_second d e i.1.0 u i.1.2 (deep_token q n i.1.0 i.1.1)) (first_some (tokens d) (over n d) (over n e) u h)
    deep_token (of_left {d = d} p) n u h = as_is d (left d) u refl (deep_token p n u h)
    deep_token (of_right {d = d} p) n u h = as_is d (right d) u refl (deep_token p n u h)
    deep_token of_last n u h = absurd (none_some u (sym h))
    deep_token (of_more {d = d} {ds = ds} p q) n u h =
        as_is (both d ds) (more d ds) u refl (⊎_elim (λ i. in_first d ds u (deep_token p n u i)) (λ i. in_second d ds i.1.0 u i.1.2 (deep_token q n i.1.0 i.1.1)) (first_some (tokens d) (over n d) (over n ds) u h))
    deep_token (of_deep {n = m} p) zero u h = at_limit m u p (some_is [] u h)
    deep_token (of_deep {d = d} p) (suc n) u h = as_is d (inner d) u refl (deep_token p n u h)
    deep_token (of_sub {d = d} p) n u h = as_is d (part d) u refl (deep_token p n u h)
