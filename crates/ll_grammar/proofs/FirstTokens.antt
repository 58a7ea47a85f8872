-- With which tokens the sentences of a right side begin.
use Rattle.std.proofs.Common.{◌≡◌, ℕ, zero, true, false, List, [], ◌++◌, sym, ap, subst, true≢false, append_assoc, ⊎_elim, length, ◌≤◌, suc, arith, length-append, ◌∷◌}
use Rattle.ll_grammar.specs.Grammar.{Rule, then, Grammar}
use Rattle.ll_grammar.specs.Derivations.{Tree, tokens, Derives, of_empty, of_token, of_then, of_left, of_right, of_last, of_more, of_deep, of_sub}
use Rattle.ll_grammar.specs.LookAhead.{nullable, first, firsts, heads, starts, IsLL1}
use Rattle.ll_grammar.proofs.KindSets.{Within, member_left, member_right, within_then, within_left, within_right, within_more, within_solid, and_false, or_false_l, or_false_r}
use Rattle.ll_grammar.proofs.Beginnings.{MayStart, may_within, IsFilled, filled_left, filled_right, starts_filled}
use Rattle.ll_grammar.proofs.Checks.{solid, first_within}

filled_length : {T : Type 0} (u : List T) → IsFilled u → 1 ≤ length u
filled_length [] h = absurd h
filled_length (t ∷ u) h = omega arith

module _ {T : Type 0} (g : Grammar T) (ok : IsLL1 g) where
  numbered_within : (n : ℕ) (follow : List ℕ) → Within (heads g (g.rule n) follow) (firsts g n ++ [])
  numbered_within n follow =
      within_solid (nullable (g.rule n)) (first g (g.rule n)) follow _ (solid g ok n) (λ k h. member_left k (firsts g n) [] (first_within g ok n k h))

  -- a sentence with something behind it begins as its right side and what follows may
  pub may_start : {r : Rule} {d : Tree T} → Derives g r d → (follow : List ℕ) (rest : List T) → MayStart g follow rest
      → MayStart g (heads g r follow) (tokens d ++ rest)
  may_start of_empty follow rest h = h
  may_start (of_token {ks} {t} m) follow rest h = member_left (g.kind t) ks [] m
  may_start (of_then {r} {s} {d} {e} p q) follow rest h =
      let i = may_start p (heads g s follow) (tokens e ++ rest) (may_start q follow rest h) in
      subst (MayStart g (heads g (then r s) follow)) (sym (append_assoc (tokens d) (tokens e) rest))
      (may_within g _ _ (within_then (nullable r) (nullable s) (first g r) (first g s) follow) (tokens d ++ (tokens e ++ rest)) i)
  may_start (of_left {r} {s} {d} p) follow rest h =
      may_within g _ _ (within_left (nullable r) (nullable s) (first g r) (first g s) follow) (tokens d ++ rest) (may_start p follow rest h)
  may_start (of_right {r} {s} {d} p) follow rest h =
      may_within g _ _ (within_right (nullable r) (nullable s) (first g r) (first g s) follow) (tokens d ++ rest) (may_start p follow rest h)
  may_start (of_last {r}) follow rest h =
      may_within g follow (first g r ++ follow) (λ k m. member_right k (first g r) follow m) rest h
  may_start (of_more {r} {d} {ds} p q) follow rest h =
      let i = may_start p (first g r ++ follow) (tokens ds ++ rest) (may_start q follow rest h) in
      subst (MayStart g (first g r ++ follow)) (sym (append_assoc (tokens d) (tokens ds) rest))
      (may_within g _ _ (within_more (nullable r) (first g r) follow) (tokens d ++ (tokens ds ++ rest)) i)
  may_start (of_deep {n} {d} p) follow rest h =
      may_within g _ _ (numbered_within n follow) (tokens d ++ rest) (may_start p follow rest h)
  may_start (of_sub {d} p) follow rest h =
      may_within g _ _ (numbered_within zero follow) (tokens d ++ rest) (may_start p follow rest h)

  -- a right side that is not nullable has no empty sentence
  pub filled : {r : Rule} {d : Tree T} → Derives g r d → nullable r ≡ false → IsFilled (tokens d)
  filled of_empty h = absurd (true≢false h)
  filled (of_token m) h = tt
  filled (of_then {r} {s} {d} {e} p q) h =
      ⊎_elim (λ i. filled_left (tokens d) (tokens e) (filled p i)) (λ i. filled_right (tokens d) (tokens e) (filled q i)) (and_false (nullable r) (nullable s) h)
  filled (of_left {r} {s} p) h = filled p (or_false_l (nullable r) (nullable s) h)
  filled (of_right {r} {s} p) h = filled p (or_false_r (nullable r) (nullable s) h)
  filled of_last h = absurd (true≢false h)
  filled (of_more p q) h = absurd (true≢false h)
  filled (of_deep {n} p) h = filled p (solid g ok n)
  filled (of_sub p) h = filled p (solid g ok zero)

  -- such a sentence begins with a token of the first set
  pub starts_first : {r : Rule} {d : Tree T} → Derives g r d → nullable r ≡ false → (follow : List ℕ) (rest : List T)
      → MayStart g follow rest → starts g (first g r) (tokens d ++ rest) ≡ true
  starts_first {r} {d} p e follow rest h =
      starts_filled g (first g r) (tokens d) rest (filled p e) (may_within g _ _ (within_solid (nullable r) (first g r) follow (first g r) e (λ k m. m)) (tokens d ++ rest) (may_start p follow rest h))

  -- what follows such a sentence is shorter than the whole
  pub rest_shorter : {r : Rule} {d : Tree T} → Derives g r d → nullable r ≡ false → (ts rest : List T) → ts ≡ tokens d ++ rest
      → suc (length rest) ≤ length ts
  rest_shorter {d = d} p e ts rest h =
      let l = filled_length (tokens d) (filled p e) in let m = ap length h in omega (arith, l, m, length-append (tokens d) rest)
