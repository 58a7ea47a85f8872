-- Each part of a right side has a sentence, and one that begins with each kind of its first set.
use Rattle.std.proofs.Common.{◌≡◌, ℕ, zero, suc, Bool, true, false, List, [], ◌∷◌, ◌++◌, refl, sym, ap, ◌∙◌, true≢false, ⊎_elim}
use Rattle.ll_grammar.specs.Grammar.{Rule, empty, token, then, or, many, deep, sub, Grammar}
use Rattle.ll_grammar.specs.Derivations.{Tree, nothing, leaf, both, left, right, last, more, inner, part, tokens, Derives, of_empty, of_token, of_then, of_left, of_right, of_last, of_more, of_deep, of_sub}
use Rattle.ll_grammar.specs.LookAhead.{member, nullable, if_so, first_by, firsts_within, firsts, has_kind, complete, productive_by, productive_within, IsLL1}
use Rattle.ll_grammar.proofs.KindSets.{and_l, and_r, or_cases, member_cases}
use Rattle.ll_grammar.proofs.Checks.{rule_complete, rule_productive}

module _ {T : Type 0} (g : Grammar T) where
  -- a sentence of the right side
  abbrev pub SomeTree : Rule → Type 0
  SomeTree r = (d : Tree T) × Derives g r d

  -- a sentence of the right side that begins with the token
  abbrev pub Leads : Rule → T → Type 0
  Leads r t = (d : Tree T) × (v : List T) × Derives g r d × (tokens d ≡ t ∷ v)

  some_token : (ts : List T) (ks : List ℕ) → has_kind g ts ks ≡ true → (t : T) × (member (g.kind t) ks ≡ true)
  some_token [] ks h = absurd (true≢false (sym h))
  some_token (t ∷ ts) ks h = ⊎_elim (λ e. (t, e)) (λ e. some_token ts ks e) (or_cases (member (g.kind t) ks) (has_kind g ts ks) h)

  productive_tree : (known : ℕ → Bool) → ((m : ℕ) → known m ≡ true → SomeTree (g.rule m)) → (r : Rule)
      → productive_by g known r ≡ true → SomeTree r
  productive_tree known k empty h = (nothing, of_empty)
  productive_tree known k (token ks) h = let i = some_token g.samples ks h in (leaf i.0, of_token i.1)
  productive_tree known k (then r s) h =
      let x = productive_tree known k r (and_l _ _ h) in let y = productive_tree known k s (and_r (productive_by g known r) _ h) in (both x.0 y.0, of_then x.1 y.1)
  productive_tree known k (or r s) h = ⊎_elim
      (λ e. let x = productive_tree known k r e in (left x.0, of_left x.1))
      (λ e. let x = productive_tree known k s e in (right x.0, of_right x.1))
      (or_cases (productive_by g known r) (productive_by g known s) h)
  productive_tree known k (many r) h = (last, of_last)
  productive_tree known k (deep m) h = let x = k m h in (inner x.0, of_deep x.1)
  productive_tree known k sub h = let x = k zero h in (part x.0, of_sub x.1)

  within_tree : (k n : ℕ) → productive_within g k n ≡ true → SomeTree (g.rule n)
  within_tree zero n h = absurd (true≢false (sym h))
  within_tree (suc k) n h = productive_tree (λ m. productive_within g k m) (λ m e. within_tree k m e) (g.rule n) h

  -- a nullable right side has the empty sentence
  blank : (r : Rule) → nullable r ≡ true → (d : Tree T) × Derives g r d × (tokens d ≡ [])
  blank empty h = (nothing, of_empty, refl)
  blank (token ks) h = absurd (true≢false (sym h))
  blank (then r s) h =
      let x = blank r (and_l _ _ h) in let y = blank s (and_r (nullable r) _ h) in (both x.0 y.0, of_then x.1 y.1, ap (λ u. u ++ tokens y.0) x.2 ∙ y.2)
  blank (or r s) h =
      ⊎_elim (λ e. let x = blank r e in (left x.0, of_left x.1, x.2)) (λ e. let x = blank s e in (right x.0, of_right x.1, x.2)) (or_cases (nullable r) (nullable s) h)
  blank (many r) h = (last, of_last, refl)
  blank (deep n) h = absurd (true≢false (sym h))
  blank sub h = absurd (true≢false (sym h))

  behind_blank : (firsts : ℕ → List ℕ) (t : T) (r s : Rule) (b : Bool) → nullable r ≡ b
      → (member (g.kind t) (first_by firsts s) ≡ true → Leads s t) → member (g.kind t) (if_so b (first_by firsts s)) ≡ true
      → Leads (then r s) t
  behind_blank firsts t r s true n k m =
      let x = blank r n in let y = k m in
      (both x.0 y.0, y.1, of_then x.1 y.2, ap (λ u. u ++ tokens y.0) x.2 ∙ y.3)
  behind_blank firsts t r s false n k m = absurd (true≢false (sym m))

  module _ (ok : IsLL1 g) where
    pub rule_tree : (n : ℕ) → SomeTree (g.rule n)
    rule_tree n = within_tree g.rounds n (rule_productive g ok n)

    pub some_tree : (r : Rule) → complete g r ≡ true → SomeTree r
    some_tree empty h = (nothing, of_empty)
    some_tree (token ks) h = let i = some_token g.samples ks h in (leaf i.0, of_token i.1)
    some_tree (then r s) h =
        let x = some_tree r (and_l _ _ h) in let y = some_tree s (and_r (complete g r) _ h) in (both x.0 y.0, of_then x.1 y.1)
    some_tree (or r s) h = let x = some_tree r (and_l _ _ h) in (left x.0, of_left x.1)
    some_tree (many r) h = (last, of_last)
    some_tree (deep n) h = let x = rule_tree n in (inner x.0, of_deep x.1)
    some_tree sub h = let x = rule_tree zero in (part x.0, of_sub x.1)

    leads : (firsts : ℕ → List ℕ) (t : T) → ((n : ℕ) → member (g.kind t) (firsts n) ≡ true → Leads (g.rule n) t) → (r : Rule)
        → complete g r ≡ true → member (g.kind t) (first_by firsts r) ≡ true → Leads r t
    leads firsts t k empty h m = absurd (true≢false (sym m))
    leads firsts t k (token ks) h m = (leaf t, [], of_token m, refl)
    leads firsts t k (then r s) h m = ⊎_elim
        (λ e. let x = leads firsts t k r (and_l _ _ h) e in let y = some_tree s (and_r (complete g r) _ h) in (both x.0 y.0, x.1 ++ tokens y.0, of_then x.2 y.1, ap (λ u. u ++ tokens y.0) x.3))
        (λ e. behind_blank firsts t r s (nullable r) refl (λ e'. leads firsts t k s (and_r (complete g r) _ h) e') e)
        (member_cases (g.kind t) (first_by firsts r) _ m)
    leads firsts t k (or r s) h m = ⊎_elim
        (λ e. let x = leads firsts t k r (and_l _ _ h) e in (left x.0, x.1, of_left x.2, x.3))
        (λ e. let x = leads firsts t k s (and_r (complete g r) _ h) e in (right x.0, x.1, of_right x.2, x.3))
        (member_cases (g.kind t) (first_by firsts r) _ m)
    leads firsts t k (many r) h m =
        let x = leads firsts t k r h m in (more x.0 last, x.1 ++ [], of_more x.2 of_last, ap (λ u. u ++ []) x.3)
    leads firsts t k (deep n) h m = let x = k n m in (inner x.0, x.1, of_deep x.2, x.3)
    leads firsts t k sub h m = let x = k zero m in (part x.0, x.1, of_sub x.2, x.3)

    within_leads : (k n : ℕ) (t : T) → member (g.kind t) (firsts_within g k n) ≡ true → Leads (g.rule n) t
    within_leads zero n t m = absurd (true≢false (sym m))
    within_leads (suc k) n t m =
        leads (λ i. firsts_within g k i) t (λ i e. within_leads k i t e) (g.rule n) (rule_complete g ok n) m

    -- each kind of a first set begins a sentence
    pub rule_leads : (n : ℕ) (t : T) → member (g.kind t) (firsts g n) ≡ true → Leads (g.rule n) t
    rule_leads n t m = within_leads g.rounds n t m
