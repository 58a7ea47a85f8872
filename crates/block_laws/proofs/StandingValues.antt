-- The diagnostics of expressions, designators and calls stand at their tokens.
use Rattle.std.specs.Prelude.{ℕ, List, [], ◌∷◌, true, false}
use Rattle.m2_base.specs.declared.rows.Place.{Place}
use Rattle.m2_base.specs.Standard.{bitset}
use Rattle.m2_base.specs.Trees.{Designator, Expr, ExprForm, Exprs, Label, Labels, Next, Nexts, Selector, Selectors, call_form, char_form, deref_selector, designator, designator_at, expr, expr_at, field_selector, index_selector, many_form, more_exprs, more_labels, more_nexts, more_selectors, name_form, next, no_exprs, no_labels, no_nexts, no_selectors, number_form, one_form, one_label, range_label, set_form, string_form, typed_set_form}
use Rattle.m2_base.specs.Statics.Contexts.{Context}
use Rattle.m2_base.specs.Statics.Sets.{set_base, set_type_of}
use Rattle.m2_base.specs.Statics.Leaves.{DesignatorHas, ExprHas, ExprsHave, FormHas, LabelHas, LabelsHave, NextHas, NextsHave, SelectorHas, SelectorsHave}
use Rattle.m2_base.specs.Statics.StandingTrees.{Stands}
use Rattle.m2_base.specs.Statics.TypeParts.{Parameter}
use Rattle.m2_base.specs.declared.builtins.Builtin.{Builtin}
use Rattle.m2_base.proofs.StandingConstants.{first_stand, first_token}
use Rattle.m2_base.proofs.StandingNotes.{GivesAt, join, none}
use Rattle.m2_base.proofs.StandingOperations.{set_type_at}
use Rattle.block_code.specs.Calls.{called}
use Rattle.block_code.specs.Coded.{Coded}
use Rattle.block_code.specs.Expressions.{call_alone, continued, count_of_exprs, designated, element, elements, expression, followed, form_coded, indexed, looked_at, passed, selected, selector, standard, value}
use Rattle.block_code.specs.Elements.{select_element}
use Rattle.block_code.specs.RecordFields.{name_coded}
use Rattle.block_code.specs.SetElements.{Elements, element_coded, no_elements_yet}
use Rattle.block_code.specs.StandardProcedures.{first_of_two}
use Rattle.block_code.specs.Values.{as_value}
use Rattle.block_laws.proofs.StandingCalls.{argument_at, call_at, called_at}
use Rattle.block_laws.proofs.StandingOperands.{as_value_at, element_coded_at, field_at, name_at, one_coded_at, selected_at, target_at, two_coded_at}
use Rattle.block_laws.proofs.StandingProcedures.{first_of_two_at, one_argument_at, two_arguments_at}

module _ (Here : ℕ → Type 0) where
  -- what stands for an expression where a value is wanted
  wanted_at : (e : Expr) (c : Context) (x : Coded) → ExprHas (Stands Here) e → GivesAt Here c (as_value c (expr_at e) x)
  wanted_at e c x h = as_value_at Here c (expr_at e) x (first_token Here e h)

  -- an element of a set, or an end of a range
  taken_at : (e : Expr) (c : Context) (base : Place) (x : Coded) → ExprHas (Stands Here) e → GivesAt Here c (element_coded c base (expr_at e) (as_value c (expr_at e) x).value)
  taken_at e c base x h = element_coded_at Here c base (expr_at e) (as_value c (expr_at e) x).value (first_token Here e h)

  mutual
    expression_at : (e : Expr) (c : Context) (withs : List Place) → ExprHas (Stands Here) e → GivesAt Here c (expression c withs e)
    expression_at (expr at form) c withs h = form_at form c withs h.1

    form_at : (form : ExprForm) (c : Context) (withs : List Place) → FormHas (Stands Here) form → GivesAt Here c (form_coded c withs form)
    form_at (number_form v) c withs h = none
    form_at (char_form v) c withs h = none
    form_at (string_form v) c withs h = none
    form_at (set_form items) c withs h = join (elements_at items c withs (set_base c bitset) (no_elements_yet c bitset) h) none
    form_at (typed_set_form d items) c withs h =
        let o = (designated c withs d).value.operand in
        let t = (set_type_of c (designator_at d) o).value in
        join (designated_at d c withs h.0)
        (join (set_type_at Here c (designator_at d) o (first_stand Here d h.0))
        (join (elements_at items c withs (set_base c t) (no_elements_yet c t) h.1) none))
    form_at (name_form d) c withs h = designated_at d c withs h
    form_at (call_form d args) c withs h =
        let x = (designated c withs d).value in
        let what = (called c true (designator_at d) (count_of_exprs args) x).value in
        join (designated_at d c withs h.0)
        (join (called_at Here c true (designator_at d) (count_of_exprs args) x (first_stand Here d h.0))
        (call_at Here c what (λ f. standard c withs f args) (λ ps. passed c withs ps args) (looked_at c withs args)
        (λ f. standard_at args c withs f h.1) (λ ps. passed_at args c withs ps h.1) (looked_at_at args c withs h.1)))
    form_at (one_form op op_at e) c withs h =
        let x = (expression c withs e).value in
        join (expression_at e c withs h.1) (join (wanted_at e c x h.1) (one_coded_at Here c op op_at (as_value c (expr_at e) x).value h.0))
    form_at (many_form first rest) c withs h =
        let x = (expression c withs first).value in
        join (expression_at first c withs h.0)
        (join (wanted_at first c x h.0) (continued_at rest c withs (expr_at first) (as_value c (expr_at first) x).value (first_token Here first h.0) h.1))

    continued_at : (ns : Nexts) (c : Context) (withs : List Place) (x_at : ℕ) (x : Coded) → Here x_at → NextsHave (Stands Here) ns → GivesAt Here c (continued c withs x_at x ns)
    continued_at no_nexts c withs x_at x k h = none
    continued_at (more_nexts m ns) c withs x_at x k h =
        join (followed_at m c withs x_at x k h.0) (continued_at ns c withs x_at (followed c withs x_at x m).value k h.1)

    followed_at : (m : Next) (c : Context) (withs : List Place) (x_at : ℕ) (x : Coded) → Here x_at → NextHas (Stands Here) m → GivesAt Here c (followed c withs x_at x m)
    followed_at (next op op_at right) c withs x_at x k h =
        let y = (expression c withs right).value in
        join (expression_at right c withs h.1)
        (join (wanted_at right c y h.1)
        (two_coded_at Here c op op_at x_at x (expr_at right) (as_value c (expr_at right) y).value h.0 k (first_token Here right h.1)))

    elements_at : (ls : Labels) (c : Context) (withs : List Place) (base : Place) (es : Elements) → LabelsHave (Stands Here) ls → GivesAt Here c (elements c withs base es ls)
    elements_at no_labels c withs base es h = none
    elements_at (more_labels l ls) c withs base es h =
        join (element_at l c withs base es h.0) (elements_at ls c withs base (element c withs base es l).value h.1)

    element_at : (l : Label) (c : Context) (withs : List Place) (base : Place) (es : Elements) → LabelHas (Stands Here) l → GivesAt Here c (element c withs base es l)
    element_at (one_label e) c withs base es h =
        let x = (expression c withs e).value in
        join (expression_at e c withs h) (join (wanted_at e c x h) (join (taken_at e c base x h) none))
    element_at (range_label low high) c withs base es h =
        let x = (expression c withs low).value in
        let y = (expression c withs high).value in
        join (expression_at low c withs h.0) (join (wanted_at low c x h.0) (join (taken_at low c base x h.0)
        (join (expression_at high c withs h.1) (join (wanted_at high c y h.1) (join (taken_at high c base y h.1) none)))))

    passed_at : (es : Exprs) (c : Context) (withs : List Place) (ps : List Parameter) → ExprsHave (Stands Here) es → GivesAt Here c (passed c withs ps es)
    passed_at no_exprs c withs [] h = none
    passed_at no_exprs c withs (p ∷ ps) h = none
    passed_at (more_exprs e es) c withs [] h = none
    passed_at (more_exprs e es) c withs (p ∷ ps) h =
        join (expression_at e c withs h.0)
        (join (argument_at Here c p (expr_at e) (expression c withs e).value (first_token Here e h.0)) (join (passed_at es c withs ps h.1) none))

    looked_at_at : (es : Exprs) (c : Context) (withs : List Place) → ExprsHave (Stands Here) es → GivesAt Here c (looked_at c withs es)
    looked_at_at no_exprs c withs h = none
    looked_at_at (more_exprs e es) c withs h = join (expression_at e c withs h.0) (looked_at_at es c withs h.1)

    standard_at : (es : Exprs) (c : Context) (withs : List Place) (f : Builtin) → ExprsHave (Stands Here) es → GivesAt Here c (standard c withs f es)
    standard_at no_exprs c withs f h = none
    standard_at (more_exprs e no_exprs) c withs f h =
        join (expression_at e c withs h.0) (one_argument_at Here c f (expr_at e) (expression c withs e).value (first_token Here e h.0))
    standard_at (more_exprs e (more_exprs e' others)) c withs f h =
        let x = (expression c withs e).value in
        let v = (first_of_two c f (expr_at e) x).value in
        let y = (expression c withs e').value in
        join (expression_at e c withs h.0)
        (join (first_of_two_at Here c f (expr_at e) x (first_token Here e h.0))
        (join (expression_at e' c withs h.1.0) (two_arguments_at Here c f (expr_at e) v (expr_at e') y (first_token Here e h.0) (first_token Here e' h.1.0))))

    pub designated_at : (d : Designator) (c : Context) (withs : List Place) → DesignatorHas (Stands Here) d → GivesAt Here c (designated c withs d)
    designated_at (designator i rest) c withs h = join (name_at Here c withs i h.0) (selectors_at rest c withs i.at (name_coded c withs i).value h.0 h.1)

    selectors_at : (ss : Selectors) (c : Context) (withs : List Place) (first : ℕ) (x : Coded) → Here first → SelectorsHave (Stands Here) ss → GivesAt Here c (selected c withs first x ss)
    selectors_at no_selectors c withs first x k h = none
    selectors_at (more_selectors s ss) c withs first x k h =
        join (selector_at s c withs first x k h.0) (selectors_at ss c withs first (selector c withs first x s).value k h.1)

    selector_at : (s : Selector) (c : Context) (withs : List Place) (first : ℕ) (x : Coded) → Here first → SelectorHas (Stands Here) s → GivesAt Here c (selector c withs first x s)
    selector_at (field_selector i at) c withs first x k h = field_at Here c first at i x k h.1 h.0
    selector_at (index_selector es at) c withs first x k h = indexed_at es c withs first at x k h.1 h.0
    selector_at (deref_selector at) c withs first x k h = target_at Here c first at x k h

    indexed_at : (es : Exprs) (c : Context) (withs : List Place) (first at : ℕ) (x : Coded) → Here first → Here at → ExprsHave (Stands Here) es → GivesAt Here c (indexed c withs first at x es)
    indexed_at no_exprs c withs first at x k l h = none
    indexed_at (more_exprs e es) c withs first at x k l h =
        let i = (expression c withs e).value in
        let v = (as_value c (expr_at e) i).value in
        join (expression_at e c withs h.0)
        (join (wanted_at e c i h.0)
        (join (selected_at Here c first at (expr_at e) v x k l (first_token Here e h.0))
        (indexed_at es c withs first at (select_element c first at (expr_at e) v x).value k l h.1)))

  pub value_at : (e : Expr) (c : Context) (withs : List Place) → ExprHas (Stands Here) e → GivesAt Here c (value c withs e)
  value_at e c withs h = join (expression_at e c withs h) (wanted_at e c (expression c withs e).value h)

  pub call_alone_at : (d : Designator) (args : Exprs) (c : Context) (withs : List Place) → DesignatorHas (Stands Here) d → ExprsHave (Stands Here) args → GivesAt Here c (call_alone c withs d args)
  call_alone_at d args c withs h k =
      let x = (designated c withs d).value in
      let what = (called c false (designator_at d) (count_of_exprs args) x).value in
      join (designated_at d c withs h)
      (join (called_at Here c false (designator_at d) (count_of_exprs args) x (first_stand Here d h))
      (call_at Here c what (λ f. standard c withs f args) (λ ps. passed c withs ps args) (looked_at c withs args)
      (λ f. standard_at args c withs f k) (λ ps. passed_at args c withs ps k) (looked_at_at args c withs k)))
