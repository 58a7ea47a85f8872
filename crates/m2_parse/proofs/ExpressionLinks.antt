-- The readers of expressions read what the grammar says.
use Rattle.std.proofs.Common.{ℕ, zero, suc, List, [], ◌∷◌, Some, refl, ap, ◌∙◌, map}
use Rattle.ll_grammar.specs.Grammar.{many, ◌⨾◌}
use Rattle.ll_grammar.specs.Derivations.{both, left, right}
use Rattle.ll_grammar.specs.Readers.{itself}
use Rattle.ll_grammar.proofs.Link.{Reads, Is, weaker, seq, final, either, no_part, deeper, at_limit, a_kind, a_token, next_starts, next_in_starts}
use Rattle.ll_grammar.proofs.Repetitions.{loop, list_read}
use Rattle.m2_base.specs.declared.kind.TokenKind.TheVariants.{Identifier, Number, Character, String, LeftBrace, LeftParenthesis, RightParenthesis, LeftBracket, Period, Ellipsis, Plus, Minus, Not}
use Rattle.m2_base.specs.declared.token.Token.{Token}
use Rattle.m2_base.specs.declared.trees.operators.Operator.TheVariants as operators
use Rattle.m2_base.specs.KindNumbers.{kind_number}
use Rattle.m2_base.specs.Operators.{operator_of}
use Rattle.m2_base.specs.Grammar.{grammar, factor, any, multiplying, term, signs, adding, first_term, sum, relations, relation, expr, upper, label, labels, elements, set_rule, exprs, arguments, actuals, selector, designator, designated, factor_rule, a}
use Rattle.m2_base.specs.Trees as trees
use Rattle.m2_base.specs.Trees.{Expr}
use Rattle.m2_base.specs.ExpressionsOf as of
use Rattle.m2_base.proofs.GrammarChecks.{is_ll1}
use Rattle.m2_parse.specs.Reading.{Read, tell, next_is, next_in}
use Rattle.m2_parse.specs.ReadExpressions as at
use Rattle.m2_parse.specs.ReadExpressions.{factor_starts, begins_factor, begins_expr, begins_selector, factor_at}
use Rattle.m2_parse.proofs.NameLinks.{ident_read}

module _ (n : ℕ) (reader : Read Expr) (reads : (ts : List Token) → Reads grammar tell factor (Is of.factor_of) n ts (reader ts)) where
  next_factor_read : (ts : List Token) → Reads grammar tell (any multiplying ⨾ factor) (Is of.next_factor_of) n ts (at.next_factor_with reader ts)
  unfolding at.next_factor_with
  next_factor_read ts =
      seq (a_token (map kind_number multiplying) ts) (λ t dt et.
      final (λ f. trees.next (operator_of t.0.kind) t.0.at f.0) (reads t.1) (λ f df h.
      ap (λ z. of.next_factor_of (both z df)) et ∙ ap (λ x. trees.next (operator_of t.0.kind) t.0.at x) h))

  factors_read : (ts : List Token) → Reads grammar tell (many (any multiplying ⨾ factor)) (Is of.factors_of) n ts (at.factors_with reader ts)
  factors_read ts =
      loop is_ll1 (λ d w. of.factors_of d) itself refl (next_in_starts grammar (map kind_number multiplying)) (λ w. refl) (λ d ds w h. refl) next_factor_read ts

  term_read : (ts : List Token) → Reads grammar tell term (Is of.term_of) n ts (at.term_with reader ts)
  unfolding at.term_with
  term_read ts =
      seq (reads ts) (λ f df h.
      final (λ fs. trees.with_operators f.0 fs.0) (factors_read f.1) (λ fs dfs k. (λ j. trees.with_operators (h j) (k j))))

  next_term_read : (ts : List Token) → Reads grammar tell (any adding ⨾ term) (Is of.next_term_of) n ts (at.next_term_with reader ts)
  unfolding at.next_term_with
  next_term_read ts =
      seq (a_token (map kind_number adding) ts) (λ t dt et.
      final (λ f. trees.next (operator_of t.0.kind) t.0.at f.0) (term_read t.1) (λ f df h.
      ap (λ z. of.next_term_of (both z df)) et ∙ ap (λ x. trees.next (operator_of t.0.kind) t.0.at x) h))

  terms_read : (ts : List Token) → Reads grammar tell (many (any adding ⨾ term)) (Is of.terms_of) n ts (at.terms_with reader ts)
  terms_read ts =
      loop is_ll1 (λ d w. of.terms_of d) itself refl (next_in_starts grammar (map kind_number adding)) (λ w. refl) (λ d ds w h. refl) next_term_read ts

  first_term_read : (ts : List Token) → Reads grammar tell first_term (Is of.first_term_of) n ts (at.first_term_with reader ts)
  unfolding at.first_term_with
  first_term_read ts =
      either (next_in signs ts) (next_in_starts grammar (map kind_number signs) ts)
      (seq (a_token (map kind_number signs) ts) (λ t dt et.
      final (λ d. trees.expr t.0.at (trees.one_form (operator_of t.0.kind) t.0.at d.0)) (term_read t.1) (λ d dd h.
      ap (λ z. of.first_term_of (left (both z dd))) et ∙ ap (λ x. trees.expr t.0.at (trees.one_form (operator_of t.0.kind) t.0.at x)) h)))
      (weaker (λ x d w h. h) (term_read ts))

  sum_read : (ts : List Token) → Reads grammar tell sum (Is of.sum_of) n ts (at.sum_with reader ts)
  unfolding at.sum_with
  sum_read ts =
      seq (first_term_read ts) (λ d dd h.
      final (λ ds. trees.with_operators d.0 ds.0) (terms_read d.1) (λ ds dds k. (λ j. trees.with_operators (h j) (k j))))

  relation_read : (ts : List Token) → Reads grammar tell relation (Is of.relation_of) n ts (at.relation_with reader ts)
  unfolding at.relation_with
  relation_read ts =
      either (next_in relations ts) (next_in_starts grammar (map kind_number relations) ts)
      (seq (a_token (map kind_number relations) ts) (λ t dt et.
      final (λ s. trees.next (operator_of t.0.kind) t.0.at s.0 ∷ []) (sum_read t.1) (λ s ds h.
      ap (λ z. of.relation_of (left (both z ds))) et ∙ ap (λ x. trees.next (operator_of t.0.kind) t.0.at x ∷ []) h)))
      (no_part refl)

  pub expr_read : (ts : List Token) → Reads grammar tell expr (Is of.expr_of) n ts (at.expr_with reader ts)
  unfolding at.expr_with
  expr_read ts =
      seq (sum_read ts) (λ s ds h.
      final (λ r. trees.with_operators s.0 r.0) (relation_read s.1) (λ r dr k. (λ j. trees.with_operators (h j) (k j))))

  pub exprs_read : (ts : List Token) → Reads grammar tell exprs (Is of.exprs_of) n ts (at.exprs_with reader ts)
  exprs_read ts =
      list_read is_ll1 56 (λ d w. of.exprs_of d) (λ d w. of.more_exprs_of d) itself (λ w. refl) (λ s d ds w. refl) (λ d ds w. refl) expr_read ts

  upper_read : (ts : List Token) → Reads grammar tell upper (Is of.upper_of) n ts (at.upper_with reader ts)
  unfolding at.upper_with
  upper_read ts =
      either (next_is Ellipsis ts) (next_starts grammar 68 ts)
      (seq (a_kind 68 ts) (λ p dp ep.
      final (λ e. Some e.0) (expr_read p.1) (λ e de h. ap (λ x. Some x) h)))
      (no_part refl)

  label_read : (ts : List Token) → Reads grammar tell label (Is of.label_of) n ts (at.label_with_upper reader ts)
  unfolding at.label_with_upper
  label_read ts =
      seq (expr_read ts) (λ e de h.
      final (λ u. trees.label_with e.0 u.0) (upper_read e.1) (λ u du k. (λ j. trees.label_with (h j) (k j))))

  pub labels_read : (ts : List Token) → Reads grammar tell labels (Is of.labels_of) n ts (at.labels_with reader ts)
  labels_read ts =
      list_read is_ll1 56 (λ d w. of.labels_of d) (λ d w. of.more_labels_of d) itself (λ w. refl) (λ s d ds w. refl) (λ d ds w. refl) label_read ts

  elements_read : (ts : List Token) → Reads grammar tell elements (Is of.elements_of) n ts (at.elements_with reader ts)
  unfolding at.elements_with
  elements_read ts =
      either (begins_expr ts) (next_in_starts grammar (map kind_number (Plus ∷ Minus ∷ factor_starts)) ts)
      (weaker (λ x d w h. h) (labels_read ts)) (no_part refl)

  set_read : (ts : List Token) → Reads grammar tell set_rule (Is of.set_of) n ts (at.set_with reader ts)
  unfolding at.set_with
  set_read ts =
      seq (a_kind 60 ts) (λ p dp ep.
      seq (elements_read p.1) (λ es des h.
      final (λ q. (p.0.at, es.0)) (a_kind 72 es.1) (λ q dq eq.
      ap (λ z. of.set_of (both z (both des dq))) ep ∙ ap (λ x. (p.0.at, x)) h)))

  arguments_read : (ts : List Token) → Reads grammar tell arguments (Is of.arguments_of) n ts (at.arguments_with reader ts)
  unfolding at.arguments_with
  arguments_read ts =
      either (begins_expr ts) (next_in_starts grammar (map kind_number (Plus ∷ Minus ∷ factor_starts)) ts)
      (weaker (λ x d w h. h) (exprs_read ts)) (no_part refl)

  pub actuals_read : (ts : List Token) → Reads grammar tell actuals (Is of.actuals_of) n ts (at.actuals_with reader ts)
  unfolding at.actuals_with
  actuals_read ts =
      seq (a_kind 58 ts) (λ p dp ep.
      seq (arguments_read p.1) (λ es des h.
      final (λ q. es.0) (a_kind 70 es.1) (λ q dq eq. h)))

  selector_read : (ts : List Token) → Reads grammar tell selector (Is of.selector_of) n ts (at.selector_with reader ts)
  unfolding at.selector_with
  selector_read ts =
      either (next_is Period ts) (next_starts grammar 55 ts)
      (seq (a_kind 55 ts) (λ p dp ep.
      final (λ i. trees.field_selector i.0 p.0.at) (ident_read n p.1) (λ i di h.
      ap (λ z. of.selector_of (left (both z di))) ep ∙ ap (λ x. trees.field_selector x p.0.at) h)))
      (either (next_is LeftBracket ts) (next_starts grammar 59 ts)
      (seq (a_kind 59 ts) (λ p dp ep.
      seq (exprs_read p.1) (λ es des h.
      final (λ q. trees.index_selector (trees.exprs es.0) p.0.at) (a_kind 71 es.1) (λ q dq eq.
      ap (λ z. of.selector_of (right (left (both z (both des dq))))) ep ∙ ap (λ x. trees.index_selector (trees.exprs x) p.0.at) h))))
      (final (λ p. trees.deref_selector p.0.at) (a_kind 61 ts) (λ p dp ep. ap (λ z. of.selector_of (right (right z))) ep)))

  selectors_read : (ts : List Token) → Reads grammar tell (many selector) (Is of.selectors_of) n ts (at.selectors_with reader ts)
  selectors_read ts =
      loop is_ll1 (λ d w. of.selectors_of d) itself refl (next_in_starts grammar (55 ∷ 59 ∷ 61 ∷ [])) (λ w. refl) (λ d ds w h. refl) selector_read ts

  pub designator_read : (ts : List Token) → Reads grammar tell designator (Is of.designator_of) n ts (at.designator_with reader ts)
  unfolding at.designator_with
  designator_read ts =
      seq (ident_read n ts) (λ i di h.
      final (λ ss. trees.designator i.0 (trees.selectors ss.0)) (selectors_read i.1) (λ ss dss k. (λ j. trees.designator (h j) (trees.selectors (k j)))))

  designated_read : (ts : List Token) → Reads grammar tell designated (Is of.designated_of) n ts (at.designated_with reader ts)
  unfolding at.designated_with at.selection_with
  designated_read ts =
      seq (designator_read ts) (λ d dd h.
      either (next_is LeftBrace d.1) (next_starts grammar 60 d.1)
      (final (λ s. of.typed_set d.0 s.0.1) (set_read d.1) (λ s ds k. (λ j. of.typed_set (h j) (k j).1)))
      (either (next_is LeftParenthesis d.1) (next_starts grammar 58 d.1)
      (final (λ es. of.call d.0 es.0) (actuals_read d.1) (λ es des k. (λ j. of.call (h j) (k j))))
      (no_part (ap of.name h))))

  plain_set_read : (ts : List Token) → Reads grammar tell set_rule (Is (λ d. of.plain_set (of.set_of d))) n ts (at.plain_set_with reader ts)
  unfolding at.plain_set_with
  plain_set_read ts = final (λ s. of.plain_set s.0) (set_read ts) (λ s ds h. ap of.plain_set h)

  bracketed_read : (ts : List Token) → Reads grammar tell (a LeftParenthesis ⨾ expr ⨾ a RightParenthesis) (Is of.bracketed_of) n ts (at.bracketed_with reader ts)
  unfolding at.bracketed_with
  bracketed_read ts =
      seq (a_kind 58 ts) (λ p dp ep.
      seq (expr_read p.1) (λ e de h.
      final (λ q. trees.in_brackets p.0.at e.0) (a_kind 70 e.1) (λ q dq eq.
      ap (λ z. of.bracketed_of (both z (both de dq))) ep ∙ ap (λ x. trees.in_brackets p.0.at x) h)))

  negated_read : (ts : List Token) → Reads grammar tell (a Not ⨾ factor) (Is of.negated_of) n ts (at.negated_with reader ts)
  unfolding at.negated_with
  negated_read ts =
      seq (a_kind 33 ts) (λ p dp ep.
      final (λ f. trees.expr p.0.at (trees.one_form operators.Not p.0.at f.0)) (reads p.1) (λ f df h.
      ap (λ z. of.negated_of (both z df)) ep ∙ ap (λ x. trees.expr p.0.at (trees.one_form operators.Not p.0.at x)) h))

  inner_factor_read : (ts : List Token) → Reads grammar tell factor_rule (Is of.factor_rule_of) n ts (at.inner_factor reader ts)
  unfolding at.inner_factor at.number_at at.char_at at.string_at
  inner_factor_read ts =
      either (next_is Number ts) (next_starts grammar 2 ts)
      (final (λ t. trees.expr t.0.at (trees.number_form t.0.value)) (a_kind 2 ts) (λ t d e. ap (λ z. of.factor_rule_of (left z)) e))
      (either (next_is Character ts) (next_starts grammar 3 ts)
      (final (λ t. trees.expr t.0.at (trees.char_form t.0.value)) (a_kind 3 ts) (λ t d e. ap (λ z. of.factor_rule_of (right (left z))) e))
      (either (next_is String ts) (next_starts grammar 4 ts)
      (final (λ t. trees.expr t.0.at (trees.string_form t.0.value)) (a_kind 4 ts) (λ t d e. ap (λ z. of.factor_rule_of (right (right (left z)))) e))
      (either (next_is LeftBrace ts) (next_starts grammar 60 ts) (weaker (λ x d w h. h) (plain_set_read ts))
      (either (next_is Identifier ts) (next_starts grammar 1 ts) (weaker (λ x d w h. h) (designated_read ts))
      (either (next_is LeftParenthesis ts) (next_starts grammar 58 ts) (weaker (λ x d w h. h) (bracketed_read ts))
      (weaker (λ x d w h. h) (negated_read ts)))))))

pub factor_read : (n : ℕ) (ts : List Token) → Reads grammar tell factor (Is of.factor_of) n ts (factor_at n ts)
unfolding factor_at
factor_read zero ts = at_limit (begins_factor ts) (next_in_starts grammar (map kind_number factor_starts) ts)
factor_read (suc n) ts = deeper (inner_factor_read n (factor_at n) (factor_read n) ts)
