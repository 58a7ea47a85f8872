-- The law of lengths: the code of an expression, a designator or a call has so many bytes at most for each of its tokens. By
-- induction on the syntax.
use Rattle.std.specs.Prelude.{ℕ, ◌+◌, ◌*◌, ◌≤◌, true, false, List, [], ◌∷◌}
use Rattle.std.proofs.Common.{arith}
use Rattle.block_code.proofs.CallLengths.{SparesIfThere, after-spares, argument-spares, by_called-sized, called-sized}
use Rattle.block_code.proofs.DesignatorLengths.{name-roomy, select_element-roomy, select_field-roomy, select_target-roomy}
use Rattle.block_code.proofs.FunctionLengths.{first-roomy, no_argument-roomy, one_argument-roomy, two_arguments-roomy}
use Rattle.block_code.proofs.Lengths.{Spares, spares-all, spares-less}
use Rattle.block_code.proofs.ValueLengths.{Roomy, Sized, SizedSet, add_element-sized, add_range-sized, as_value-roomy, bare-roomy, element-roomy, error-roomy, one_coded-roomy, roomy-more, set-roomy, sized-less, two_coded-roomy, value-spares}
use Rattle.block_code.specs.Arguments.{argument}
use Rattle.block_code.specs.Calls.{called}
use Rattle.block_code.specs.Coded.{Coded, value_code}
use Rattle.block_code.specs.Elements.{select_element}
use Rattle.block_code.specs.Expressions.{call_alone, continued, count_of_exprs, designated, element, elements, expression, followed, form_coded, indexed, looked_at, passed, selected, selector, standard, value}
use Rattle.block_code.specs.Lengths.{IsShortFor}
use Rattle.block_code.specs.Parts.{none}
use Rattle.block_code.specs.RecordFields.{name_coded}
use Rattle.block_code.specs.SetElements.{Elements, element_coded, no_elements_yet, set_coded}
use Rattle.block_code.specs.StandardProcedures.{first_of_two, of_two_arguments}
use Rattle.block_code.specs.Tokens.{designator_tokens, expr_tokens, exprs_tokens, form_tokens, label_tokens, labels_tokens, next_tokens, nexts_tokens, selector_tokens, selectors_tokens}
use Rattle.block_code.specs.Values.{as_value}
use Rattle.m2_base.specs.Standard.{bitset}
use Rattle.m2_base.specs.Statics.Contexts.{Context}
use Rattle.m2_base.specs.Statics.Sets.{set_base, set_type_of}
use Rattle.m2_base.specs.Statics.TypeParts.{Parameter}
use Rattle.m2_base.specs.Trees.{Designator, Expr, ExprForm, Exprs, Label, Labels, Next, Nexts, Selector, Selectors, call_form, char_form, deref_selector, designator, designator_at, expr, expr_at, field_selector, index_selector, many_form, more_exprs, more_labels, more_nexts, more_selectors, name_form, next, no_exprs, no_labels, no_nexts, no_selectors, number_form, one_form, one_label, range_label, set_form, string_form, typed_set_form}
use Rattle.m2_base.specs.declared.builtins.Builtin.{Builtin}
use Rattle.m2_base.specs.declared.rows.Place.{Place}

-- ---- numbers

nothing_more : (n : ℕ) → n ≤ n + 0
nothing_more n = omega arith

then_more : (n k m : ℕ) → n + k + m ≤ n + (k + m)
then_more n k m = omega arith

set_tokens : (d n : ℕ) → 1 + n ≤ d + 1 + n
set_tokens d n = omega arith

call_tokens : (n k : ℕ) → 32 + 64 * (n + k) ≤ 22 + 64 * (n + 1 + k)
call_tokens n k = omega arith

at_least : (n k : ℕ) → 1 ≤ n → 1 ≤ n + 1 + k
at_least n k l = omega arith

operator_first : (n k : ℕ) → n + k ≤ n + (1 + k)
operator_first n k = omega arith

one_tokens : (n : ℕ) → n + 1 ≤ 1 + (n + 1 + 0)
one_tokens n = omega arith

two_tokens : (n k m : ℕ) → n + k ≤ 1 + (n + 1 + (k + 1 + m))
two_tokens n k m = omega arith

no_tokens : 1 ≤ 1 + 0
no_tokens = omega arith

index_tokens : (n k m : ℕ) → n + k + m ≤ n + (k + 1 + m)
index_tokens n k m = omega arith

bracket : (n k : ℕ) → n + k ≤ n + (1 + k)
bracket n k = omega arith

no_set : (c : Context) (t : Place) → SizedSet 0 (no_elements_yet c t)
no_set c t = λ at. omega arith

set_more : (n k m : ℕ) → 0 + 64 * (n + k + m) ≤ 0 + 64 * (n + (k + m))
set_more n k m = omega arith

set_end : (n : ℕ) → 0 + 64 * n ≤ 0 + 64 * (n + 0)
set_end n = omega arith

one_label_tokens : (n k : ℕ) → n + (k + 1) ≤ n + (k + 1)
one_label_tokens n k = omega arith

no_args : (c : Context) → Spares 0 0 none
no_args c = λ at. omega arith

set_start : (es : Elements) (n : ℕ) → SizedSet (0 + n) es → SizedSet n es
set_start es n f = spares-less es.code 0 0 (0 + n) n (go n) f
  where
    go : (n : ℕ) → 0 + 64 * (0 + n) ≤ 0 + 64 * n
    go n = omega arith

mutual
  pub expression-roomy : (c : Context) (withs : List Place) (e : Expr) → Roomy (expr_tokens e) (expression c withs e).value
  expression-roomy c withs (expr at form) = form-roomy c withs form

  pub form-roomy : (c : Context) (withs : List Place) (f : ExprForm) → Roomy (form_tokens f) (form_coded c withs f).value
  form-roomy c withs (number_form n) = bare-roomy 1 (form_coded c withs (number_form n)).value.operand (omega arith)
  form-roomy c withs (char_form n) = bare-roomy 1 (form_coded c withs (char_form n)).value.operand (omega arith)
  form-roomy c withs (string_form n) = bare-roomy 1 (form_coded c withs (string_form n)).value.operand (omega arith)
  form-roomy c withs (set_form items) =
      let es : Elements = (elements c withs (set_base c bitset) (no_elements_yet c bitset) items).value in
      set-roomy bitset (labels_tokens items) es
      (set_start es (labels_tokens items) (elements-sized c withs (set_base c bitset) 0 (no_elements_yet c bitset) items (no_set c bitset)))
  form-roomy c withs (typed_set_form d items) =
      let t : Place = (set_type_of c (designator_at d) (designated c withs d).value.operand).value in
      let es : Elements = (elements c withs (set_base c t) (no_elements_yet c t) items).value in
      roomy-more (set_coded t es) (1 + labels_tokens items) (designator_tokens d + 1 + labels_tokens items) (set_tokens (designator_tokens d) (labels_tokens items))
      (set-roomy t (labels_tokens items) es
      (set_start es (labels_tokens items) (elements-sized c withs (set_base c t) 0 (no_elements_yet c t) items (no_set c t))))
  form-roomy c withs (name_form d) = designated-roomy c withs d
  form-roomy c withs (call_form d args) =
      let g : Roomy (designator_tokens d) (designated c withs d).value = designated-roomy c withs d in
      sized-less (form_coded c withs (call_form d args)).value 22 32 (designator_tokens d + exprs_tokens args) (designator_tokens d + 1 + exprs_tokens args)
      (call_tokens (designator_tokens d) (exprs_tokens args)) (at_least (designator_tokens d) (exprs_tokens args) g.some)
      (by_called-sized c (designator_tokens d) (exprs_tokens args) (called c true (designator_at d) (count_of_exprs args) (designated c withs d).value).value
      (λ f. standard c withs f args) (λ ps. passed c withs ps args) (looked_at c withs args) g.some
      (called-sized c true (designator_at d) (count_of_exprs args) (designator_tokens d) (designated c withs d).value g)
      (λ f. standard-roomy c withs f args) (λ ps. passed-spares c withs ps args) (looked-roomy c withs (designator_tokens d) args g.some))
  form-roomy c withs (one_form op op_at e) =
      let x : Coded = (expression c withs e).value in
      one_coded-roomy c op op_at (expr_tokens e) (as_value c (expr_at e) x).value
      (as_value-roomy c (expr_at e) (expr_tokens e) x (expression-roomy c withs e))
  form-roomy c withs (many_form e rest) =
      let x : Coded = (expression c withs e).value in
      continued-roomy c withs (expr_at e) (expr_tokens e) (as_value c (expr_at e) x).value rest
      (as_value-roomy c (expr_at e) (expr_tokens e) x (expression-roomy c withs e))

  pub continued-roomy : (c : Context) (withs : List Place) (x_at n : ℕ) (x : Coded) (ns : Nexts) → Roomy n x
      → Roomy (n + nexts_tokens ns) (continued c withs x_at x ns).value
  continued-roomy c withs x_at n x no_nexts g = roomy-more x n (n + 0) (nothing_more n) g
  continued-roomy c withs x_at n x (more_nexts o ns) g =
      let y : Coded = (followed c withs x_at x o).value in
      roomy-more (continued c withs x_at y ns).value (n + next_tokens o + nexts_tokens ns) (n + (next_tokens o + nexts_tokens ns))
      (then_more n (next_tokens o) (nexts_tokens ns))
      (continued-roomy c withs x_at (n + next_tokens o) y ns (followed-roomy c withs x_at n x o g))

  pub followed-roomy : (c : Context) (withs : List Place) (x_at n : ℕ) (x : Coded) (o : Next) → Roomy n x
      → Roomy (n + next_tokens o) (followed c withs x_at x o).value
  followed-roomy c withs x_at n x (next op op_at e) g =
      let y : Coded = (expression c withs e).value in
      roomy-more (followed c withs x_at x (next op op_at e)).value (n + expr_tokens e) (n + (1 + expr_tokens e)) (operator_first n (expr_tokens e))
      (two_coded-roomy c op op_at x_at n x (expr_at e) (expr_tokens e) (as_value c (expr_at e) y).value g
      (as_value-roomy c (expr_at e) (expr_tokens e) y (expression-roomy c withs e)))

  pub elements-sized : (c : Context) (withs : List Place) (base : Place) (n : ℕ) (es : Elements) (ls : Labels) → SizedSet n es
      → SizedSet (n + labels_tokens ls) (elements c withs base es ls).value
  elements-sized c withs base n es no_labels f = spares-less es.code 0 0 n (n + 0) (set_end n) f
  elements-sized c withs base n es (more_labels l ls) f =
      let more : Elements = (element c withs base es l).value in
      spares-less (elements c withs base more ls).value.code 0 0 (n + (label_tokens l + 1) + labels_tokens ls) (n + (label_tokens l + 1 + labels_tokens ls))
      (set_more n (label_tokens l + 1) (labels_tokens ls))
      (elements-sized c withs base (n + (label_tokens l + 1)) more ls (label-sized c withs base n es l f))

  pub label-sized : (c : Context) (withs : List Place) (base : Place) (n : ℕ) (es : Elements) (l : Label) → SizedSet n es
      → SizedSet (n + (label_tokens l + 1)) (element c withs base es l).value
  label-sized c withs base n es (one_label e) f =
      let x : Coded = (expression c withs e).value in
      let v : Coded = (as_value c (expr_at e) x).value in
      add_element-sized c n (expr_tokens e) es (element_coded c base (expr_at e) v).value f
      (element-roomy c base (expr_at e) (expr_tokens e) v (as_value-roomy c (expr_at e) (expr_tokens e) x (expression-roomy c withs e)))
  label-sized c withs base n es (range_label low high) f =
      let x : Coded = (expression c withs low).value in
      let y : Coded = (expression c withs high).value in
      let v : Coded = (as_value c (expr_at low) x).value in
      let w : Coded = (as_value c (expr_at high) y).value in
      add_range-sized c n (expr_tokens low) (expr_tokens high) es (element_coded c base (expr_at low) v).value (element_coded c base (expr_at high) w).value f
      (element-roomy c base (expr_at low) (expr_tokens low) v (as_value-roomy c (expr_at low) (expr_tokens low) x (expression-roomy c withs low)))
      (element-roomy c base (expr_at high) (expr_tokens high) w (as_value-roomy c (expr_at high) (expr_tokens high) y (expression-roomy c withs high)))

  pub passed-spares : (c : Context) (withs : List Place) (ps : List Parameter) (es : Exprs) → SparesIfThere 0 (exprs_tokens es) (passed c withs ps es).value
  passed-spares c withs [] no_exprs = no_args c
  passed-spares c withs (p ∷ ps) no_exprs = tt
  passed-spares c withs [] (more_exprs e es) = tt
  passed-spares c withs (p ∷ ps) (more_exprs e es) =
      let x : Coded = (expression c withs e).value in
      after-spares (expr_tokens e) (exprs_tokens es) (argument c p (expr_at e) x).value (passed c withs ps es).value
      (argument-spares c p (expr_at e) (expr_tokens e) x (expression-roomy c withs e)) (passed-spares c withs ps es)

  pub looked-roomy : (c : Context) (withs : List Place) (n : ℕ) (es : Exprs) → 1 ≤ n → Roomy n (looked_at c withs es).value
  looked-roomy c withs n no_exprs l = error-roomy n l
  looked-roomy c withs n (more_exprs e es) l = looked-roomy c withs n es l

  pub standard-roomy : (c : Context) (withs : List Place) (f : Builtin) (es : Exprs) → Roomy (1 + exprs_tokens es) (standard c withs f es).value
  standard-roomy c withs f no_exprs = roomy-more (standard c withs f no_exprs).value 1 (1 + 0) no_tokens (no_argument-roomy f)
  standard-roomy c withs f (more_exprs a no_exprs) =
      roomy-more (standard c withs f (more_exprs a no_exprs)).value (expr_tokens a + 1) (1 + (expr_tokens a + 1 + 0)) (one_tokens (expr_tokens a))
      (one_argument-roomy c f (expr_at a) (expr_tokens a) (expression c withs a).value (expression-roomy c withs a))
  standard-roomy c withs f (more_exprs a (more_exprs b others)) =
      let x : Coded = (expression c withs a).value in
      let v : Coded = (first_of_two c f (expr_at a) x).value in
      let y : Coded = (expression c withs b).value in
      roomy-more (of_two_arguments c f (expr_at a) v (expr_at b) y).value (expr_tokens a + expr_tokens b)
      (1 + (expr_tokens a + 1 + (expr_tokens b + 1 + exprs_tokens others))) (two_tokens (expr_tokens a) (expr_tokens b) (exprs_tokens others))
      (two_arguments-roomy c f (expr_at a) (expr_tokens a) v (expr_at b) (expr_tokens b) y
      (first-roomy c f (expr_at a) (expr_tokens a) x (expression-roomy c withs a)) (expression-roomy c withs b))

  pub designated-roomy : (c : Context) (withs : List Place) (d : Designator) → Roomy (designator_tokens d) (designated c withs d).value
  designated-roomy c withs (designator i rest) = selected-roomy c withs i.at 1 (name_coded c withs i).value rest (name-roomy c withs i)

  pub selected-roomy : (c : Context) (withs : List Place) (first n : ℕ) (x : Coded) (ss : Selectors) → Roomy n x
      → Roomy (n + selectors_tokens ss) (selected c withs first x ss).value
  selected-roomy c withs first n x no_selectors g = roomy-more x n (n + 0) (nothing_more n) g
  selected-roomy c withs first n x (more_selectors s ss) g =
      let y : Coded = (selector c withs first x s).value in
      roomy-more (selected c withs first y ss).value (n + selector_tokens s + selectors_tokens ss) (n + (selector_tokens s + selectors_tokens ss))
      (then_more n (selector_tokens s) (selectors_tokens ss))
      (selected-roomy c withs first (n + selector_tokens s) y ss (selector-roomy c withs first n x s g))

  pub selector-roomy : (c : Context) (withs : List Place) (first n : ℕ) (x : Coded) (s : Selector) → Roomy n x
      → Roomy (n + selector_tokens s) (selector c withs first x s).value
  selector-roomy c withs first n x (field_selector i at) g = select_field-roomy c first at n i x g
  selector-roomy c withs first n x (index_selector es at) g =
      roomy-more (indexed c withs first at x es).value (n + exprs_tokens es) (n + (1 + exprs_tokens es)) (bracket n (exprs_tokens es))
      (indexed-roomy c withs first at n x es g)
  selector-roomy c withs first n x (deref_selector at) g = select_target-roomy c first at n x g

  pub indexed-roomy : (c : Context) (withs : List Place) (first at n : ℕ) (x : Coded) (es : Exprs) → Roomy n x
      → Roomy (n + exprs_tokens es) (indexed c withs first at x es).value
  indexed-roomy c withs first at n x no_exprs g = roomy-more x n (n + 0) (nothing_more n) g
  indexed-roomy c withs first at n x (more_exprs e es) g =
      let i : Coded = (expression c withs e).value in
      let v : Coded = (as_value c (expr_at e) i).value in
      let y : Coded = (select_element c first at (expr_at e) v x).value in
      roomy-more (indexed c withs first at y es).value (n + expr_tokens e + exprs_tokens es) (n + (expr_tokens e + 1 + exprs_tokens es))
      (index_tokens n (expr_tokens e) (exprs_tokens es))
      (indexed-roomy c withs first at (n + expr_tokens e) y es
      (select_element-roomy c first at (expr_at e) n (expr_tokens e) v x g
      (as_value-roomy c (expr_at e) (expr_tokens e) i (expression-roomy c withs e))))

-- an expression where a value is wanted
pub value-roomy : (c : Context) (withs : List Place) (e : Expr) → Roomy (expr_tokens e) (value c withs e).value
value-roomy c withs e = as_value-roomy c (expr_at e) (expr_tokens e) (expression c withs e).value (expression-roomy c withs e)

-- a call as a statement
pub call_alone-sized : (c : Context) (withs : List Place) (d : Designator) (args : Exprs)
    → Sized 22 (designator_tokens d + exprs_tokens args) (call_alone c withs d args).value
call_alone-sized c withs d args =
    let g : Roomy (designator_tokens d) (designated c withs d).value = designated-roomy c withs d in
    by_called-sized c (designator_tokens d) (exprs_tokens args) (called c false (designator_at d) (count_of_exprs args) (designated c withs d).value).value
    (λ f. standard c withs f args) (λ ps. passed c withs ps args) (looked_at c withs args) g.some
    (called-sized c false (designator_at d) (count_of_exprs args) (designator_tokens d) (designated c withs d).value g)
    (λ f. standard-roomy c withs f args) (λ ps. passed-spares c withs ps args) (looked-roomy c withs (designator_tokens d) args g.some)

pub value-short : (c : Context) (withs : List Place) (e : Expr) → IsShortFor (expr_tokens e) (value_code c (value c withs e).value)
value-short c withs e =
    let v : Coded = (value c withs e).value in
    spares-all (value_code c v) 23 (expr_tokens e) (value-spares c (expr_tokens e) v (value-roomy c withs e))

pub designator-short : (c : Context) (withs : List Place) (d : Designator) → IsShortFor (designator_tokens d) (designated c withs d).value.code
designator-short c withs d =
    let x : Coded = (designated c withs d).value in
    let g : Roomy (designator_tokens d) x = designated-roomy c withs d in
    spares-all x.code 32 (designator_tokens d) g.code

pub call-short : (c : Context) (withs : List Place) (d : Designator) (args : Exprs)
    → IsShortFor (designator_tokens d + exprs_tokens args) (call_alone c withs d args).value.code
call-short c withs d args =
    let x : Coded = (call_alone c withs d args).value in
    let g : Sized 22 (designator_tokens d + exprs_tokens args) x = call_alone-sized c withs d args in
    spares-all x.code 22 (designator_tokens d + exprs_tokens args) g.code
