-- What each numbered rule of a grammar that passes the checks has.
use Rattle.std.proofs.Common.{◌≡◌, ℕ, true, false, [], not, ◌&&◌}
use Rattle.ll_grammar.specs.Grammar.{Rule, Grammar}
use Rattle.ll_grammar.specs.LookAhead.{nullable, subset, first, firsts, clear, complete, productive_within, IsLL1, IsRoot}
use Rattle.ll_grammar.proofs.KindSets.{and_l, and_r, not_is, Within, subset_within}

module _ {T : Type 0} (g : Grammar T) (ok : IsLL1 g) where
  pub solid : (n : ℕ) → nullable (g.rule n) ≡ false
  solid n = not_is (nullable (g.rule n)) (and_l _ _ (ok.rules n))

  pub first_within : (n : ℕ) → Within (first g (g.rule n)) (firsts g n)
  first_within n = subset_within (first g (g.rule n)) (firsts g n) (and_l _ _ (and_r (not (nullable (g.rule n))) _ (ok.rules n)))

  abbrev later : (n : ℕ) → (clear g (g.rule n) (g.follows n) && (complete g (g.rule n) && productive_within g g.rounds n)) ≡ true
  later n = and_r (subset (first g (g.rule n)) (firsts g n)) _ (and_r (not (nullable (g.rule n))) _ (ok.rules n))

  pub rule_clear : (n : ℕ) → clear g (g.rule n) (g.follows n) ≡ true
  rule_clear n = and_l _ _ (later n)

  pub rule_complete : (n : ℕ) → complete g (g.rule n) ≡ true
  rule_complete n = and_l _ _ (and_r (clear g (g.rule n) (g.follows n)) _ (later n))

  pub rule_productive : (n : ℕ) → productive_within g g.rounds n ≡ true
  rule_productive n = and_r (complete g (g.rule n)) _ (and_r (clear g (g.rule n) (g.follows n)) _ (later n))

module _ {T : Type 0} (g : Grammar T) (r : Rule) (root : IsRoot g r) where
  pub root_clear : clear g r [] ≡ true
  root_clear = and_l _ _ root

  pub root_complete : complete g r ≡ true
  root_complete = and_r (clear g r []) _ root
