-- The trees of expressions, by their derivations. A derivation of the rule has one of the forms that are named; what
-- is said of any other form is said of nothing.
use Rattle.std.specs.Prelude.{ℕ, List, [], ◌∷◌, Option, Some, None}
use Rattle.m2_base.specs.declared.token.Token.{Token}
use Rattle.m2_base.specs.declared.trees.operators.Operator.TheVariants.{Not}
use Rattle.m2_base.specs.Operators.{operator_of}
use Rattle.m2_base.specs.Trees.{Ident, Qual, Expr, expr, number_form, char_form, string_form, set_form, typed_set_form}
use Rattle.m2_base.specs.Trees.{name_form, call_form, one_form, exprs, Next, next, Designator, designator}
use Rattle.m2_base.specs.Trees.{no_selectors, Selector, field_selector, index_selector, deref_selector, selectors}
use Rattle.m2_base.specs.Trees.{Label, one_label, label_with, labels, designator_at, with_operators, in_brackets}
use Rattle.ll_grammar.specs.Derivations.{Tree, leaf, both, left, right, more, inner}

-- the name that the token is
abbrev pub ident_of_token : Token → Ident
ident_of_token t = record { name = t.value; at = t.at }

abbrev pub no_ident : Ident
no_ident = record { name = 0; at = 0 }

abbrev pub ident_of : Tree Token → Ident
ident_of (leaf t) = ident_of_token t
ident_of _ = no_ident

abbrev pub more_idents_of : Tree Token → List Ident
more_idents_of (more (both comma i) rest) = ident_of i ∷ more_idents_of rest
more_idents_of _ = []

abbrev pub idents_of : Tree Token → List Ident
idents_of (both i rest) = ident_of i ∷ more_idents_of rest
idents_of _ = []

abbrev pub second_of : Tree Token → Option Ident
second_of (left (both period i)) = Some (ident_of i)
second_of _ = None

abbrev pub qual_of : Tree Token → Qual
qual_of (both i second) = record { first = ident_of i; second = second_of second }
qual_of _ = record { first = no_ident; second = None }

abbrev pub no_expr : Expr
no_expr = expr 0 (number_form 0)

abbrev pub no_next : Next
no_next = next Not 0 no_expr

abbrev pub no_designator : Designator
no_designator = designator no_ident no_selectors

-- a set with no type before it, and its first token
abbrev pub plain_set : ℕ × List Label → Expr
plain_set s = expr s.0 (set_form (labels s.1))

-- a set with its type before it, a call, or a designator alone
abbrev pub typed_set : Designator → List Label → Expr
typed_set d items = expr (designator_at d) (typed_set_form d (labels items))

abbrev pub call : Designator → List Expr → Expr
call d args = expr (designator_at d) (call_form d (exprs args))

abbrev pub name : Designator → Expr
name d = expr (designator_at d) (name_form d)

abbrev mutual
  pub factor_of : Tree Token → Expr
  factor_of (inner d) = factor_rule_of d
  factor_of _ = no_expr

  pub factor_rule_of : Tree Token → Expr
  factor_rule_of (left (leaf t)) = expr t.at (number_form t.value)
  factor_rule_of (right (left (leaf t))) = expr t.at (char_form t.value)
  factor_rule_of (right (right (left (leaf t)))) = expr t.at (string_form t.value)
  factor_rule_of (right (right (right (left set)))) = plain_set (set_of set)
  factor_rule_of (right (right (right (right (left d))))) = designated_of d
  factor_rule_of (right (right (right (right (right (left e)))))) = bracketed_of e
  factor_rule_of (right (right (right (right (right (right f)))))) = negated_of f
  factor_rule_of _ = no_expr

  pub bracketed_of : Tree Token → Expr
  bracketed_of (both (leaf t) (both e close)) = in_brackets t.at (expr_of e)
  bracketed_of _ = no_expr

  pub negated_of : Tree Token → Expr
  negated_of (both (leaf t) f) = expr t.at (one_form Not t.at (factor_of f))
  negated_of _ = no_expr

  pub designated_of : Tree Token → Expr
  designated_of (both d (left set)) = typed_set (designator_of d) (set_of set).1
  designated_of (both d (right (left args))) = call (designator_of d) (actuals_of args)
  designated_of (both d (right (right none))) = name (designator_of d)
  designated_of _ = no_expr

  -- the first token and the elements
  pub set_of : Tree Token → ℕ × List Label
  set_of (both (leaf t) (both items close)) = (t.at, elements_of items)
  set_of _ = (0, [])

  pub elements_of : Tree Token → List Label
  elements_of (left ls) = labels_of ls
  elements_of _ = []

  pub actuals_of : Tree Token → List Expr
  actuals_of (both opening (both args close)) = arguments_of args
  actuals_of _ = []

  pub arguments_of : Tree Token → List Expr
  arguments_of (left es) = exprs_of es
  arguments_of _ = []

  pub designator_of : Tree Token → Designator
  designator_of (both i ss) = designator (ident_of i) (selectors (selectors_of ss))
  designator_of _ = no_designator

  pub selectors_of : Tree Token → List Selector
  selectors_of (more s ss) = selector_of s ∷ selectors_of ss
  selectors_of _ = []

  pub selector_of : Tree Token → Selector
  selector_of (left (both (leaf t) i)) = field_selector (ident_of i) t.at
  selector_of (right (left (both (leaf t) (both es close)))) = index_selector (exprs (exprs_of es)) t.at
  selector_of (right (right (leaf t))) = deref_selector t.at
  selector_of _ = deref_selector 0

  pub exprs_of : Tree Token → List Expr
  exprs_of (both e es) = expr_of e ∷ more_exprs_of es
  exprs_of _ = []

  pub more_exprs_of : Tree Token → List Expr
  more_exprs_of (more (both comma e) es) = expr_of e ∷ more_exprs_of es
  more_exprs_of _ = []

  pub term_of : Tree Token → Expr
  term_of (both f fs) = with_operators (factor_of f) (factors_of fs)
  term_of _ = no_expr

  pub factors_of : Tree Token → List Next
  factors_of (more f fs) = next_factor_of f ∷ factors_of fs
  factors_of _ = []

  pub next_factor_of : Tree Token → Next
  next_factor_of (both (leaf t) f) = next (operator_of t.kind) t.at (factor_of f)
  next_factor_of _ = no_next

  pub first_term_of : Tree Token → Expr
  first_term_of (left (both (leaf t) d)) = expr t.at (one_form (operator_of t.kind) t.at (term_of d))
  first_term_of (right d) = term_of d
  first_term_of _ = no_expr

  pub sum_of : Tree Token → Expr
  sum_of (both d ds) = with_operators (first_term_of d) (terms_of ds)
  sum_of _ = no_expr

  pub terms_of : Tree Token → List Next
  terms_of (more d ds) = next_term_of d ∷ terms_of ds
  terms_of _ = []

  pub next_term_of : Tree Token → Next
  next_term_of (both (leaf t) d) = next (operator_of t.kind) t.at (term_of d)
  next_term_of _ = no_next

  pub relation_of : Tree Token → List Next
  relation_of (left (both (leaf t) s)) = next (operator_of t.kind) t.at (sum_of s) ∷ []
  relation_of _ = []

  pub expr_of : Tree Token → Expr
  expr_of (both s r) = with_operators (sum_of s) (relation_of r)
  expr_of _ = no_expr

  pub upper_of : Tree Token → Option Expr
  upper_of (left (both dots e)) = Some (expr_of e)
  upper_of _ = None

  pub label_of : Tree Token → Label
  label_of (both e upper) = label_with (expr_of e) (upper_of upper)
  label_of _ = one_label no_expr

  pub labels_of : Tree Token → List Label
  labels_of (both l ls) = label_of l ∷ more_labels_of ls
  labels_of _ = []

  pub more_labels_of : Tree Token → List Label
  more_labels_of (more (both comma l) ls) = label_of l ∷ more_labels_of ls
  more_labels_of _ = []

-- [Expr]
abbrev pub optional_expr_of : Tree Token → Option Expr
optional_expr_of (left e) = Some (expr_of e)
optional_expr_of _ = None
