-- What parts give one after another is what the whole expression gives.
use Rattle.std.proofs.Common.{◌≡◌, ◌∙◌, ℕ}
use Rattle.m2_base.specs.Gives.{Gives, and_then, gives}
use Rattle.m2_base.specs.Statics.Constants.{element_in, form_in, many_in, next_in, operand_in, value_wanted}
use Rattle.m2_base.specs.Statics.Contexts.{Context}
use Rattle.m2_base.specs.Statics.Operations.{apply_one, operate}
use Rattle.m2_base.specs.Statics.Sets.{element_of, with_elements}
use Rattle.m2_base.specs.Trees.{Expr, Nexts, expr_at, many_form, next, one_form, one_label, range_label}
use Rattle.m2_base.specs.declared.operands.Operand.{Operand}
use Rattle.m2_base.specs.declared.rows.Place.{Place}
use Rattle.m2_base.specs.declared.trees.operators.Operator.{Operator}
use Rattle.const_eval.specs.Parts.{member_in, value_in}
use Rattle.const_eval.proofs.Analysing.{and_then_assoc}
use Rattle.const_eval.proofs.Folding.{and_then_same}

module _ (c : Context) where
  pub one_given : (at : ℕ) (op : Operator) (op_at : ℕ) (e : Expr) → and_then (value_in c e) (λ x. apply_one c op op_at x) ≡ form_in c at (one_form op op_at e)
  one_given at op op_at e = and_then_assoc (operand_in c e) (λ o. value_wanted c (expr_at e) o) (λ x. apply_one c op op_at x)

  pub many_given : (at : ℕ) (first : Expr) (rest : Nexts) → and_then (value_in c first) (λ x. many_in c at x rest) ≡ form_in c at (many_form first rest)
  many_given at first rest = and_then_assoc (operand_in c first) (λ o. value_wanted c (expr_at first) o) (λ x. many_in c at x rest)

  pub next_given : (at : ℕ) (x : Operand) (op : Operator) (op_at : ℕ) (e : Expr) → and_then (value_in c e) (λ y. operate c op op_at x at y (expr_at e)) ≡ next_in c at x (next op op_at e)
  next_given at x op op_at e = and_then_assoc (operand_in c e) (λ o. value_wanted c (expr_at e) o) (λ y. operate c op op_at x at y (expr_at e))

  member_then : (base : Place) (e : Expr) (rest : Operand → Gives Operand)
      → and_then (member_in c base e) rest ≡ and_then (operand_in c e) (λ o. and_then (value_wanted c (expr_at e) o) (λ v. and_then (element_of c base (expr_at e) v) rest))
  member_then base e rest =
      and_then_assoc (value_in c e) (λ v. element_of c base (expr_at e) v) rest
      ∙ and_then_assoc (operand_in c e) (λ o. value_wanted c (expr_at e) o) (λ v. and_then (element_of c base (expr_at e) v) rest)

  pub one_label_given : (base : Place) (bits : Operand) (e : Expr) → and_then (member_in c base e) (λ x. gives (with_elements bits x x)) ≡ element_in c base bits (one_label e)
  one_label_given base bits e = member_then base e (λ x. gives (with_elements bits x x))

  pub range_given : (base : Place) (bits : Operand) (low high : Expr)
      → and_then (member_in c base low) (λ x. and_then (member_in c base high) (λ y. gives (with_elements bits x y))) ≡ element_in c base bits (range_label low high)
  range_given base bits low high =
      let upper = λ (x : Operand). and_then (member_in c base high) (λ y. gives (with_elements bits x y)) in
      let spread = λ (x : Operand). and_then (operand_in c high) (λ p. and_then (value_wanted c (expr_at high) p) (λ w. and_then (element_of c base (expr_at high) w) (λ y. gives (with_elements bits x y)))) in
      let o = operand_in c low in
      let v = value_wanted c (expr_at low) o.value in
      let x = element_of c base (expr_at low) v.value in
      member_then base low upper
      ∙ and_then_same o (λ u. and_then (value_wanted c (expr_at low) u) (λ v. and_then (element_of c base (expr_at low) v) upper)) (λ u. and_then (value_wanted c (expr_at low) u) (λ v. and_then (element_of c base (expr_at low) v) spread))
      (and_then_same v (λ u. and_then (element_of c base (expr_at low) u) upper) (λ u. and_then (element_of c base (expr_at low) u) spread)
      (and_then_same x upper spread (member_then base high (λ y. gives (with_elements bits x.value y)))))
