-- How many tokens syntax is made of, at the least: brackets round an expression aren't counted. Each label, each
-- element of a set, each index and each argument has the comma or the bracket behind it.
use Rattle.std.specs.Prelude.{ℕ, ◌+◌}
use Rattle.m2_base.specs.Trees.{Designator, Expr, ExprForm, Exprs, Label, Labels, Next, Nexts, Selector, Selectors}
use Rattle.m2_base.specs.Trees.{call_form, char_form, deref_selector, designator, expr, field_selector, index_selector}
use Rattle.m2_base.specs.Trees.{many_form, more_exprs, more_labels, more_nexts, more_selectors, name_form, next}
use Rattle.m2_base.specs.Trees.{no_exprs, no_labels, no_nexts, no_selectors, number_form, one_form, one_label}
use Rattle.m2_base.specs.Trees.{range_label, set_form, string_form, typed_set_form}

abbrev mutual
  -- of an expression
  pub expr_tokens : Expr → ℕ
  expr_tokens (expr at form) = form_tokens form

  -- of each form of expression
  pub form_tokens : ExprForm → ℕ
  form_tokens (number_form n) = 1
  form_tokens (char_form n) = 1
  form_tokens (string_form name) = 1
  form_tokens (set_form items) = 1 + labels_tokens items
  form_tokens (typed_set_form d items) = designator_tokens d + 1 + labels_tokens items
  form_tokens (name_form d) = designator_tokens d
  form_tokens (call_form d args) = designator_tokens d + 1 + exprs_tokens args
  form_tokens (one_form op op_at e) = 1 + expr_tokens e
  form_tokens (many_form first rest) = expr_tokens first + nexts_tokens rest

  -- of the operators and operands that follow an operand
  pub nexts_tokens : Nexts → ℕ
  nexts_tokens no_nexts = 0
  nexts_tokens (more_nexts n ns) = next_tokens n + nexts_tokens ns

  -- of an operator and the operand behind it
  pub next_tokens : Next → ℕ
  next_tokens (next op op_at right) = 1 + expr_tokens right

  -- of labels, or of the elements of a set
  pub labels_tokens : Labels → ℕ
  labels_tokens no_labels = 0
  labels_tokens (more_labels l ls) = label_tokens l + 1 + labels_tokens ls

  -- of one value or of a range
  pub label_tokens : Label → ℕ
  label_tokens (one_label e) = expr_tokens e
  label_tokens (range_label low high) = expr_tokens low + 1 + expr_tokens high

  -- of arguments, or of indices
  pub exprs_tokens : Exprs → ℕ
  exprs_tokens no_exprs = 0
  exprs_tokens (more_exprs e es) = expr_tokens e + 1 + exprs_tokens es

  -- of a designator
  pub designator_tokens : Designator → ℕ
  designator_tokens (designator i rest) = 1 + selectors_tokens rest

  -- of selectors
  pub selectors_tokens : Selectors → ℕ
  selectors_tokens no_selectors = 0
  selectors_tokens (more_selectors s ss) = selector_tokens s + selectors_tokens ss

  -- of a selector
  pub selector_tokens : Selector → ℕ
  selector_tokens (field_selector i at) = 2
  selector_tokens (index_selector es at) = 1 + exprs_tokens es
  selector_tokens (deref_selector at) = 1
