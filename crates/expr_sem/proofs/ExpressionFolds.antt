-- What loops over the parts of a tree make is what the definitions by recursion give.
use Rattle.std.proofs.Common.{◌≡◌, ◌∙◌, [], ◌∷◌, ℕ, List, map, refl}
use Rattle.m2_base.specs.Gives.{and_then, gives}
use Rattle.m2_base.specs.Statics.Contexts.{Context}
use Rattle.m2_base.specs.Trees.{Expr, Exprs, Label, Next, Selector, expr_at, exprs, labels, more_exprs, nexts, selectors}
use Rattle.m2_base.specs.declared.rows.Place.{Place}
use Rattle.const_eval.proofs.Analysing.{and_then_assoc}
use Rattle.const_eval.proofs.Folding.{and_then_same, folded}
use Rattle.block_code.specs.Coded.{Coded, in_error}
use Rattle.block_code.specs.Elements.{select_element}
use Rattle.expr_sem.specs.ExpressionParts.{index}
use Rattle.block_code.specs.Expressions.{continued, element, elements, expression, followed, indexed, looked_at, selected, selector, value}
use Rattle.block_code.specs.SetElements.{Elements}
use Rattle.block_code.specs.Values.{as_value}

indices_step : (c : Context) (withs : List Place) (first at : ℕ) (x : Coded) (e : Expr) (es : Exprs) → and_then (index c withs first at x e) (λ y. indexed c withs first at y es) ≡ indexed c withs first at x (more_exprs e es)
indices_step c withs first at x e es =
    let rest = λ (y : Coded). indexed c withs first at y es in
    and_then_assoc (value c withs e) (λ v. select_element c first at (expr_at e) v x) rest
    ∙ and_then_assoc (expression c withs e) (as_value c (expr_at e)) (λ v. and_then (select_element c first at (expr_at e) v x) rest)

module _ {X : Type 0} (c : Context) (withs : List Place) where
  pub nexts_folded : (view : X → Next) (at : ℕ) (x : Coded) (ns : List X) → folded (λ o n. followed c withs at o (view n)) x ns ≡ continued c withs at x (nexts (map view ns))
  nexts_folded view at x [] = refl
  nexts_folded view at x (n ∷ ns) =
      and_then_same (followed c withs at x (view n)) (λ o. folded (λ o n. followed c withs at o (view n)) o ns) (λ o. continued c withs at o (nexts (map view ns))) (nexts_folded view at (followed c withs at x (view n)).value ns)

  pub labels_folded : (view : X → Label) (base : Place) (es : Elements) (ls : List X) → folded (λ o l. element c withs base o (view l)) es ls ≡ elements c withs base es (labels (map view ls))
  labels_folded view base es [] = refl
  labels_folded view base es (l ∷ ls) =
      and_then_same (element c withs base es (view l)) (λ o. folded (λ o l. element c withs base o (view l)) o ls) (λ o. elements c withs base o (labels (map view ls))) (labels_folded view base (element c withs base es (view l)).value ls)

  pub selectors_folded : (view : X → Selector) (first : ℕ) (x : Coded) (ss : List X) → folded (λ o s. selector c withs first o (view s)) x ss ≡ selected c withs first x (selectors (map view ss))
  selectors_folded view first x [] = refl
  selectors_folded view first x (s ∷ ss) =
      and_then_same (selector c withs first x (view s)) (λ o. folded (λ o s. selector c withs first o (view s)) o ss) (λ o. selected c withs first o (selectors (map view ss))) (selectors_folded view first (selector c withs first x (view s)).value ss)

  pub indices_folded : (view : X → Expr) (first at : ℕ) (x : Coded) (es : List X) → folded (λ o e. index c withs first at o (view e)) x es ≡ indexed c withs first at x (exprs (map view es))
  indices_folded view first at x [] = refl
  indices_folded view first at x (e ∷ es) =
      and_then_same (index c withs first at x (view e)) (λ o. folded (λ o e. index c withs first at o (view e)) o es) (λ o. indexed c withs first at o (exprs (map view es))) (indices_folded view first at (index c withs first at x (view e)).value es)
      ∙ indices_step c withs first at x (view e) (exprs (map view es))

  pub looked_folded : (view : X → Expr) (es : List X) → folded (λ o e. and_then (expression c withs (view e)) (λ x. gives o)) in_error es ≡ looked_at c withs (exprs (map view es))
  looked_folded view [] = refl
  looked_folded view (e ∷ es) =
      let rest = λ (o : Coded). folded (λ o e. and_then (expression c withs (view e)) (λ x. gives o)) o es in
      and_then_assoc (expression c withs (view e)) (λ x. gives in_error) rest
      ∙ and_then_same (expression c withs (view e)) (λ x. and_then (gives in_error) rest) (λ x. looked_at c withs (exprs (map view es))) (looked_folded view es)
