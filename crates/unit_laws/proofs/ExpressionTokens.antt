-- Expressions are made of no more tokens than stand in their derivations.
use Rattle.std.specs.Prelude.{ℕ, ◌+◌, ◌≤◌, List, [], ◌∷◌, Option, Some, None}
use Rattle.std.proofs.Common.{arith}
use Rattle.ll_grammar.specs.Derivations.{Tree, Derives, of_empty, of_token, of_then, of_left, of_right, of_last, of_more, of_deep}
use Rattle.ll_grammar.specs.Grammar.{many, ◌⨾◌}
use Rattle.m2_base.specs.ExpressionsOf as of
use Rattle.m2_base.specs.Grammar as rules
use Rattle.m2_base.specs.Grammar.{grammar}
use Rattle.m2_base.specs.Trees.{Expr, Next, expr, exprs, in_brackets, label_with, labels, nexts, selectors, with_operators}
use Rattle.m2_base.specs.declared.token.Token.{Token}
use Rattle.m2_base.proofs.LeafExpressions.{after_commas}
use Rattle.block_code.specs.Tokens.{designator_tokens, expr_tokens, exprs_tokens, label_tokens, labels_tokens, nexts_tokens, selector_tokens, selectors_tokens}
use Rattle.stream_split.proofs.TypeSizes.{size}

operators_few : (first : Expr) (ns : List Next) (a b : ℕ) → expr_tokens first ≤ a → nexts_tokens (nexts ns) ≤ b → expr_tokens (with_operators first ns) ≤ a + b
operators_few first [] a b p q = omega (arith, p)
operators_few (expr at form) (n ∷ ns) a b p q = omega (arith, p, q)

bracketed_few : (at : ℕ) (e : Expr) (n : ℕ) → expr_tokens e ≤ n → expr_tokens (in_brackets at e) ≤ n
bracketed_few at (expr inner_at form) n p = p

-- the upper end of a range, if there is one, with the dots before it
abbrev upper_tokens : Option Expr → ℕ
upper_tokens None = 0
upper_tokens (Some e) = 1 + expr_tokens e

label_few_with : (low : Expr) (high : Option Expr) (a b : ℕ) → expr_tokens low ≤ a → upper_tokens high ≤ b → label_tokens (label_with low high) ≤ a + b
label_few_with low None a b p q = omega (arith, p)
label_few_with low (Some high) a b p q = omega (arith, p, q)

mutual
  factor_few : {d : Tree Token} → Derives grammar rules.factor d → expr_tokens (of.factor_of d) ≤ size d
  factor_few (of_deep p) = factor_rule_few p

  factor_rule_few : {d : Tree Token} → Derives grammar rules.factor_rule d → expr_tokens (of.factor_rule_of d) ≤ size d
  factor_rule_few (of_left (of_token m)) = omega arith
  factor_rule_few (of_right (of_left (of_token m))) = omega arith
  factor_rule_few (of_right (of_right (of_left (of_token m)))) = omega arith
  factor_rule_few (of_right (of_right (of_right (of_left p)))) = set_few p
  factor_rule_few (of_right (of_right (of_right (of_right (of_left p))))) = designated_few p
  factor_rule_few (of_right (of_right (of_right (of_right (of_right (of_left (of_then (of_token {t = t} m) (of_then {d = d} {e = e} p close)))))))) =
      bracketed_few t.at (of.expr_of d) _ (let h = expr_few p in omega (arith, h))
  factor_rule_few (of_right (of_right (of_right (of_right (of_right (of_right (of_then (of_token m) p))))))) = let h = factor_few p in omega (arith, h)

  designated_few : {d : Tree Token} → Derives grammar rules.designated d → expr_tokens (of.designated_of d) ≤ size d
  designated_few (of_then p (of_left q)) = let h = designator_few p in let k = set_few q in omega (arith, h, k)
  designated_few (of_then p (of_right (of_left q))) = let h = designator_few p in let k = actuals_few q in omega (arith, h, k)
  designated_few (of_then p (of_right (of_right of_empty))) = let h = designator_few p in omega (arith, h)

  -- the bracket that opens a set, and its elements
  set_few : {d : Tree Token} → Derives grammar rules.set_rule d → 1 + labels_tokens (labels (of.set_of d).1) ≤ size d
  set_few (of_then (of_token m) (of_then p (of_token n))) = let h = elements_few p in omega (arith, h)

  elements_few : {d : Tree Token} → Derives grammar rules.elements d → labels_tokens (labels (of.elements_of d)) ≤ size d + 1
  elements_few (of_left p) = labels_few p
  elements_few (of_right of_empty) = omega arith

  -- the bracket that opens arguments, and those
  pub actuals_few : {d : Tree Token} → Derives grammar rules.actuals d → 1 + exprs_tokens (exprs (of.actuals_of d)) ≤ size d
  actuals_few (of_then (of_token m) (of_then p (of_token n))) = let h = arguments_few p in omega (arith, h)

  arguments_few : {d : Tree Token} → Derives grammar rules.arguments d → exprs_tokens (exprs (of.arguments_of d)) ≤ size d + 1
  arguments_few (of_left p) = exprs_few p
  arguments_few (of_right of_empty) = omega arith

  pub designator_few : {d : Tree Token} → Derives grammar rules.designator d → designator_tokens (of.designator_of d) ≤ size d
  designator_few (of_then (of_token m) p) = let h = selectors_few p in omega (arith, h)

  selectors_few : {d : Tree Token} → Derives grammar (many rules.selector) d → selectors_tokens (selectors (of.selectors_of d)) ≤ size d
  selectors_few of_last = omega arith
  selectors_few (of_more p q) = let h = selector_few p in let k = selectors_few q in omega (arith, h, k)

  selector_few : {d : Tree Token} → Derives grammar rules.selector d → selector_tokens (of.selector_of d) ≤ size d
  selector_few (of_left (of_then (of_token m) (of_token n))) = omega arith
  selector_few (of_right (of_left (of_then (of_token m) (of_then p (of_token n))))) = let h = exprs_few p in omega (arith, h)
  selector_few (of_right (of_right (of_token m))) = omega arith

  exprs_few : {d : Tree Token} → Derives grammar rules.exprs d → exprs_tokens (exprs (of.exprs_of d)) ≤ size d + 1
  exprs_few (of_then p q) = let h = expr_few p in let k = more_exprs_few q in omega (arith, h, k)

  more_exprs_few : {d : Tree Token} → Derives grammar (after_commas rules.expr) d → exprs_tokens (exprs (of.more_exprs_of d)) ≤ size d
  more_exprs_few of_last = omega arith
  more_exprs_few (of_more (of_then (of_token m) p) q) = let h = expr_few p in let k = more_exprs_few q in omega (arith, h, k)

  term_few : {d : Tree Token} → Derives grammar rules.term d → expr_tokens (of.term_of d) ≤ size d
  term_few (of_then {d = d} {e = e} p q) = operators_few (of.factor_of d) (of.factors_of e) (size d) (size e) (factor_few p) (factors_few q)

  factors_few : {d : Tree Token} → Derives grammar (many (rules.any rules.multiplying ⨾ rules.factor)) d → nexts_tokens (nexts (of.factors_of d)) ≤ size d
  factors_few of_last = omega arith
  factors_few (of_more (of_then (of_token m) p) q) = let h = factor_few p in let k = factors_few q in omega (arith, h, k)

  first_term_few : {d : Tree Token} → Derives grammar rules.first_term d → expr_tokens (of.first_term_of d) ≤ size d
  first_term_few (of_left (of_then (of_token m) p)) = let h = term_few p in omega (arith, h)
  first_term_few (of_right p) = term_few p

  sum_few : {d : Tree Token} → Derives grammar rules.sum d → expr_tokens (of.sum_of d) ≤ size d
  sum_few (of_then {d = d} {e = e} p q) = operators_few (of.first_term_of d) (of.terms_of e) (size d) (size e) (first_term_few p) (terms_few q)

  terms_few : {d : Tree Token} → Derives grammar (many (rules.any rules.adding ⨾ rules.term)) d → nexts_tokens (nexts (of.terms_of d)) ≤ size d
  terms_few of_last = omega arith
  terms_few (of_more (of_then (of_token m) p) q) = let h = term_few p in let k = terms_few q in omega (arith, h, k)

  relation_few : {d : Tree Token} → Derives grammar rules.relation d → nexts_tokens (nexts (of.relation_of d)) ≤ size d
  relation_few (of_left (of_then (of_token m) p)) = let h = sum_few p in omega (arith, h)
  relation_few (of_right of_empty) = omega arith

  pub expr_few : {d : Tree Token} → Derives grammar rules.expr d → expr_tokens (of.expr_of d) ≤ size d
  expr_few (of_then {d = d} {e = e} p q) = operators_few (of.sum_of d) (of.relation_of e) (size d) (size e) (sum_few p) (relation_few q)

  upper_few : {d : Tree Token} → Derives grammar rules.upper d → upper_tokens (of.upper_of d) ≤ size d
  upper_few (of_left (of_then (of_token m) p)) = let h = expr_few p in omega (arith, h)
  upper_few (of_right of_empty) = omega arith

  label_few : {d : Tree Token} → Derives grammar rules.label d → label_tokens (of.label_of d) ≤ size d
  label_few (of_then {d = d} {e = e} p q) = label_few_with (of.expr_of d) (of.upper_of e) (size d) (size e) (expr_few p) (upper_few q)

  -- the last label may have its comma or bracket behind the derivation
  pub labels_few : {d : Tree Token} → Derives grammar rules.labels d → labels_tokens (labels (of.labels_of d)) ≤ size d + 1
  labels_few (of_then p q) = let h = label_few p in let k = more_labels_few q in omega (arith, h, k)

  more_labels_few : {d : Tree Token} → Derives grammar (after_commas rules.label) d → labels_tokens (labels (of.more_labels_of d)) ≤ size d
  more_labels_few of_last = omega arith
  more_labels_few (of_more (of_then (of_token m) p) q) = let h = label_few p in let k = more_labels_few q in omega (arith, h, k)
