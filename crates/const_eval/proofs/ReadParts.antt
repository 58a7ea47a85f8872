-- What is read of a tree is read of its parts, and what is given of a part is given of the tree.
use Rattle.std.proofs.Common.{◌≡◌, ◌∙◌, ℕ, zero, suc, ◌<◌, List, [], ◌∷◌, Option, Some, None, map, ap, sym, subst, arith, to_z, w64}
use Rattle.std.proofs.lemmas.Int.{to_z_pos}
use Rattle.std.specs.Prelude.{option_map, get_or, length, ◌^◌, pos}
use Rattle.m2_base.specs.Rows.{IsValue}
use Rattle.m2_base.specs.Statics.Constants.{form_in, operand_in}
use Rattle.m2_base.specs.Statics.Contexts.{Context}
use Rattle.m2_base.specs.Trees as plain
use Rattle.m2_base.specs.Trees.{expr_at, designator_at}
use Rattle.m2_base.specs.Views.{designator_view, expr_view, form_view, label_view, next_view, selector_view}
use Rattle.m2_base.specs.declared.trees.expressions as expressions
use Rattle.m2_base.specs.declared.trees.expressions.Label.{out-Label}
use Rattle.m2_base.proofs.SoundOperands.{natural-value}
use Rattle.m2_base.proofs.Seen.{designator_seen, expr_seen, label_seen, next_seen}
use Rattle.m2_base.specs.Statics.ReadTrees.{AreReadExprs, AreReadLabels, AreReadNexts, AreReadSelectors, IsReadDesignator, IsReadExpr, IsReadForm, IsReadLabel, IsReadNext, IsReadSelector}

-- an expression's first token
pub at_seen : (e : expressions.Expr.Expr) → expr_at (expr_view e) ≡ e.at
at_seen e = ap expr_at (expr_seen e)

pub designator_at_seen : (d : expressions.Designator.Designator) → designator_at (designator_view d) ≡ d.first.at
designator_at_seen d = ap designator_at (designator_seen d)

-- the form of an expression
pub form_read : (names : List (List ℕ)) (e : expressions.Expr.Expr) (form : expressions.ExprForm.ExprForm) (t : plain.ExprForm) → e.form ≡ form → form_view form ≡ t → IsReadExpr names (expr_view e) → IsReadForm names t
form_read names e form t same seen h =
    subst (λ (u : plain.ExprForm). IsReadForm names u) (ap form_view same ∙ seen) (subst (λ (u : plain.Expr). IsReadExpr names u) (expr_seen e) h)

pub form_given : (c : Context) (e : expressions.Expr.Expr) (form : expressions.ExprForm.ExprForm) (t : plain.ExprForm) → e.form ≡ form → form_view form ≡ t → form_in c e.at t ≡ operand_in c (expr_view e)
form_given c e form t same seen = sym (ap (operand_in c) (expr_seen e) ∙ ap (form_in c e.at) (ap form_view same ∙ seen))

-- an operator with the operand behind it
pub next_read : (names : List (List ℕ)) (n : expressions.Next.Next) → IsReadNext names (next_view n) → IsReadExpr names (expr_view n.right)
next_read names n h = subst (λ (u : plain.Next). IsReadNext names u) (next_seen n) h

-- a label
pub label_read : (names : List (List ℕ)) (l : expressions.Label.Label) → IsReadLabel names (label_view l) → IsReadLabel names (plain.label_with (expr_view (out-Label l).low) (option_map expr_view (out-Label l).high))
label_read names l h = subst (λ (u : plain.Label). IsReadLabel names u) (label_seen l) h

-- its lower expression
pub low_read : (names : List (List ℕ)) (low : plain.Expr) (high : Option plain.Expr) → IsReadLabel names (plain.label_with low high) → IsReadExpr names low
low_read names low None h = h
low_read names low (Some high) h = h.0

-- a designator's selectors
pub designator_read : (names : List (List ℕ)) (d : expressions.Designator.Designator) → IsReadDesignator names (designator_view d) → IsReadDesignator names (plain.designator d.first (plain.selectors (map selector_view d.rest.items)))
designator_read names d h = subst (λ (u : plain.Designator). IsReadDesignator names u) (designator_seen d) h

pub selector_read : (names : List (List ℕ)) (s : expressions.Selector.Selector) (t : plain.Selector) → selector_view s ≡ t → IsReadSelector names (selector_view s) → IsReadSelector names t
selector_read names s t seen h = subst (λ (u : plain.Selector). IsReadSelector names u) seen h

-- each item of a list
module _ {X : Type 0} (names : List (List ℕ)) where
  next_at : (view : X → plain.Next) (xs : List X) (k : ℕ) (d : X) → k < length xs → AreReadNexts names (plain.nexts (map view xs)) → IsReadNext names (view (get_or xs k d))
  next_at view [] k d h all = absurd (omega (arith, h))
  next_at view (y ∷ xs) zero d h all = all.0
  next_at view (y ∷ xs) (suc k) d h all = next_at view xs k d (omega (arith, h)) all.1

  pub read_next : (view : X → plain.Next) (xs : List X) (k : ℕ) (x : X) → k < length xs → x ≡ get_or xs k x → AreReadNexts names (plain.nexts (map view xs)) → IsReadNext names (view x)
  read_next view xs k x h e all = subst (λ (u : X). IsReadNext names (view u)) (sym e) (next_at view xs k x h all)

  label_at : (view : X → plain.Label) (xs : List X) (k : ℕ) (d : X) → k < length xs → AreReadLabels names (plain.labels (map view xs)) → IsReadLabel names (view (get_or xs k d))
  label_at view [] k d h all = absurd (omega (arith, h))
  label_at view (y ∷ xs) zero d h all = all.0
  label_at view (y ∷ xs) (suc k) d h all = label_at view xs k d (omega (arith, h)) all.1

  pub read_label : (view : X → plain.Label) (xs : List X) (k : ℕ) (x : X) → k < length xs → x ≡ get_or xs k x → AreReadLabels names (plain.labels (map view xs)) → IsReadLabel names (view x)
  read_label view xs k x h e all = subst (λ (u : X). IsReadLabel names (view u)) (sym e) (label_at view xs k x h all)

  selector_at : (view : X → plain.Selector) (xs : List X) (k : ℕ) (d : X) → k < length xs → AreReadSelectors names (plain.selectors (map view xs)) → IsReadSelector names (view (get_or xs k d))
  selector_at view [] k d h all = absurd (omega (arith, h))
  selector_at view (y ∷ xs) zero d h all = all.0
  selector_at view (y ∷ xs) (suc k) d h all = selector_at view xs k d (omega (arith, h)) all.1

  pub read_selector : (view : X → plain.Selector) (xs : List X) (k : ℕ) (x : X) → k < length xs → x ≡ get_or xs k x → AreReadSelectors names (plain.selectors (map view xs)) → IsReadSelector names (view x)
  read_selector view xs k x h e all = subst (λ (u : X). IsReadSelector names (view u)) (sym e) (selector_at view xs k x h all)

  item_at : (view : X → plain.Expr) (xs : List X) (k : ℕ) (d : X) → k < length xs → AreReadExprs names (plain.exprs (map view xs)) → IsReadExpr names (view (get_or xs k d))
  item_at view [] k d h all = absurd (omega (arith, h))
  item_at view (y ∷ xs) zero d h all = all.0
  item_at view (y ∷ xs) (suc k) d h all = item_at view xs k d (omega (arith, h)) all.1

  pub read_expr : (view : X → plain.Expr) (xs : List X) (k : ℕ) (x : X) → k < length xs → x ≡ get_or xs k x → AreReadExprs names (plain.exprs (map view xs)) → IsReadExpr names (view x)
  read_expr view xs k x h e all = subst (λ (u : X). IsReadExpr names (view u)) (sym e) (item_at view xs k x h all)

-- its upper expression
pub high_read : (names : List (List ℕ)) (low high : plain.Expr) → IsReadLabel names (plain.label_with low (Some high)) → IsReadExpr names high
high_read names low high h = h.1

-- numbers and characters are values that a row has room for
pub number_told : (n : ℕ) → n < 2 ^ 32 → to_z w64 n ≡ pos n
number_told n h = to_z_pos w64 n (omega (arith, h))

pub number_value : (n : ℕ) → n < 2 ^ 32 → IsValue (to_z w64 n)
number_value n h = subst IsValue (sym (number_told n h)) (natural-value n h)

pub char_told : (n : ℕ) → n < 256 → to_z w64 n ≡ pos n
char_told n h = number_told n (omega (arith, h))

pub char_value : (n : ℕ) → n < 256 → IsValue (to_z w64 n)
char_value n h = number_value n (omega (arith, h))
