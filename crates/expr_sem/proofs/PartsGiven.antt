-- What parts give one after another is what the whole expression gives.
use Rattle.std.proofs.Common.{◌≡◌, ◌∙◌, ℕ, List, ap, sym}
use Rattle.m2_base.specs.Gives.{Gives, and_then, gives}
use Rattle.m2_base.specs.Statics.Contexts.{Context}
use Rattle.m2_base.specs.Statics.Sets.{set_type_of}
use Rattle.m2_base.specs.Trees as plain
use Rattle.m2_base.specs.Trees.{Designator, Expr, Labels, Nexts, designator_at, expr_at, many_form, next, one_form, one_label, range_label, typed_set_form}
use Rattle.m2_base.specs.Views.{expr_view, form_view}
use Rattle.m2_base.specs.declared.rows.Place.{Place}
use Rattle.m2_base.specs.declared.trees.expressions as expressions
use Rattle.m2_base.specs.declared.trees.operators.Operator.{Operator}
use Rattle.m2_base.proofs.Seen.{expr_seen}
use Rattle.const_eval.proofs.Analysing.{and_then_assoc}
use Rattle.const_eval.proofs.Folding.{and_then_same}
use Rattle.block_code.specs.Coded.{Coded}
use Rattle.expr_sem.specs.ExpressionParts.{member, range_to, set_of, type_before}
use Rattle.block_code.specs.Expressions.{continued, designated, element, expression, followed, form_coded, value}
use Rattle.block_code.specs.Operators.{one_coded, two_coded}
use Rattle.block_code.specs.SetElements.{Elements, add_element, add_range, element_coded}
use Rattle.block_code.specs.Values.{as_value}

module _ (c : Context) (withs : List Place) where
  pub form_given : (e : expressions.Expr.Expr) (form : expressions.ExprForm.ExprForm) (t : plain.ExprForm) → e.form ≡ form → form_view form ≡ t → form_coded c withs t ≡ expression c withs (expr_view e)
  form_given e form t same seen = sym (ap (expression c withs) (expr_seen e) ∙ ap (form_coded c withs) (ap form_view same ∙ seen))

  pub one_given : (op : Operator) (op_at : ℕ) (e : Expr) → and_then (value c withs e) (λ v. one_coded c op op_at v) ≡ form_coded c withs (one_form op op_at e)
  one_given op op_at e = and_then_assoc (expression c withs e) (as_value c (expr_at e)) (λ v. one_coded c op op_at v)

  pub many_given : (first : Expr) (rest : Nexts) → and_then (value c withs first) (λ v. continued c withs (expr_at first) v rest) ≡ form_coded c withs (many_form first rest)
  many_given first rest = and_then_assoc (expression c withs first) (as_value c (expr_at first)) (λ v. continued c withs (expr_at first) v rest)

  pub typed_set_given : (d : Designator) (items : Labels) → and_then (type_before c withs d) (λ t. set_of c withs t items) ≡ form_coded c withs (typed_set_form d items)
  typed_set_given d items = and_then_assoc (designated c withs d) (λ x. set_type_of c (designator_at d) x.operand) (λ t. set_of c withs t items)

  pub next_given : (at : ℕ) (x : Coded) (op : Operator) (op_at : ℕ) (e : Expr) → and_then (value c withs e) (λ v. two_coded c op op_at at x (expr_at e) v) ≡ followed c withs at x (next op op_at e)
  next_given at x op op_at e = and_then_assoc (expression c withs e) (as_value c (expr_at e)) (λ v. two_coded c op op_at at x (expr_at e) v)

  member_then : (base : Place) (e : Expr) (rest : Coded → Gives Elements)
      → and_then (member c withs base e) rest ≡ and_then (expression c withs e) (λ x. and_then (as_value c (expr_at e) x) (λ v. and_then (element_coded c base (expr_at e) v) rest))
  member_then base e rest =
      and_then_assoc (value c withs e) (element_coded c base (expr_at e)) rest
      ∙ and_then_assoc (expression c withs e) (as_value c (expr_at e)) (λ v. and_then (element_coded c base (expr_at e) v) rest)

  pub one_label_given : (base : Place) (es : Elements) (e : Expr) → and_then (member c withs base e) (λ o. gives (add_element c es o)) ≡ element c withs base es (one_label e)
  one_label_given base es e = member_then base e (λ o. gives (add_element c es o))

  pub range_given : (base : Place) (es : Elements) (low high : Expr) → and_then (member c withs base low) (λ o. range_to c withs base es o high) ≡ element c withs base es (range_label low high)
  range_given base es low high =
      let upper = λ (o : Coded). range_to c withs base es o high in
      let spread = λ (o : Coded). and_then (expression c withs high) (λ y. and_then (as_value c (expr_at high) y) (λ w. and_then (element_coded c base (expr_at high) w) (λ p. gives (add_range c es o p)))) in
      let x = expression c withs low in
      let v = as_value c (expr_at low) x.value in
      let o = element_coded c base (expr_at low) v.value in
      member_then base low upper
      ∙ and_then_same x (λ u. and_then (as_value c (expr_at low) u) (λ v. and_then (element_coded c base (expr_at low) v) upper)) (λ u. and_then (as_value c (expr_at low) u) (λ v. and_then (element_coded c base (expr_at low) v) spread))
      (and_then_same v (λ u. and_then (element_coded c base (expr_at low) u) upper) (λ u. and_then (element_coded c base (expr_at low) u) spread)
      (and_then_same o upper spread (member_then base high (λ p. gives (add_range c es o.value p)))))
