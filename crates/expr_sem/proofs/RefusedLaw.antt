-- The law of diagnostics: whatever an expression is, where one is noted, the expression is in error. By induction on the syntax.
use Rattle.std.specs.Prelude.{◌≡◌, refl, ℕ, Bool, true, false, List, [], ◌∷◌, Option}
use Rattle.std.proofs.Common.{ap, subst, sym}
use Rattle.m2_base.specs.Gives.{Gives, and_then, gives}
use Rattle.m2_base.specs.Standard.{bitset, broken}
use Rattle.m2_base.specs.Statics.Contexts.{Context}
use Rattle.m2_base.specs.Statics.Operands.{is_bad}
use Rattle.m2_base.specs.Statics.Sets.{set_base, set_type_of}
use Rattle.m2_base.specs.Statics.TypeParts.{Parameter}
use Rattle.m2_base.specs.Trees.{Designator, Expr, ExprForm, Exprs, Label, Labels, Next, Nexts, Selector, Selectors, call_form, char_form, deref_selector, designator, designator_at, expr, expr_at, field_selector, index_selector, many_form, more_exprs, more_labels, more_nexts, more_selectors, name_form, next, no_exprs, no_labels, no_nexts, no_selectors, number_form, one_form, one_label, range_label, set_form, string_form, typed_set_form}
use Rattle.m2_base.specs.declared.builtins.Builtin.{Builtin}
use Rattle.m2_base.specs.declared.rows.Place.{Place}
use Rattle.const_eval.proofs.RefusedSteps.{BrokenIsThere, IsMissing, IsUntyped, QuietOr, no-broken_set, of-error, quiet, quiet-then, quiet-unless, wrong}
use Rattle.const_eval.proofs.RefusedOperands.{set_type-quiet}
use Rattle.expr_sem.proofs.RefusedValues.{AreErred, Erred, QuietCoded, add_element-error, add_element-set, add_range-high, add_range-low, add_range-set, as_value-error, as_value-quiet, element-error, element-quiet, name-quiet, one-error, one-quiet, select_element-error, select_element-index, select_element-quiet, select_field-error, select_field-quiet, select_target-error, select_target-quiet, set-error, two-first, two-quiet, two-second}
use Rattle.expr_sem.proofs.RefusedProcedures.{first-error, first-quiet, one_argument-error, one_argument-quiet, two_arguments-first, two_arguments-quiet, two_arguments-second}
use Rattle.expr_sem.proofs.RefusedCalls.{IsNoCall, QuietPassed, after-first, after-second, argument-error, argument-quiet, by_called-none, by_called-quiet, called-error, called-quiet}
use Rattle.block_code.specs.Arguments.{after_argument, argument}
use Rattle.block_code.specs.Calls.{Called, called}
use Rattle.block_code.specs.Coded.{Coded}
use Rattle.block_code.specs.Elements.{select_element}
use Rattle.expr_sem.specs.ExpressionParts.{called_as, called_with, set_of}
use Rattle.block_code.specs.Expressions.{call_alone, continued, count_of_exprs, designated, element, elements, expression, followed, form_coded, indexed, looked_at, passed, selected, selector, standard, value}
use Rattle.block_code.specs.Operators.{one_coded, two_coded}
use Rattle.block_code.specs.Parts.{Part}
use Rattle.block_code.specs.RecordFields.{name_coded}
use Rattle.block_code.specs.SetElements.{Elements, add_element, add_range, element_coded, no_elements_yet, set_coded}
use Rattle.block_code.specs.StandardProcedures.{first_of_two, of_one_argument, of_two_arguments}
use Rattle.block_code.specs.Values.{as_value}

module _ (c : Context) (h : BrokenIsThere c) (withs : List Place) where
  -- ---- what is made of an error is in error

  followed-error : (x_at : ℕ) (x : Coded) (n : Next) → Erred x → Erred (followed c withs x_at x n).value
  followed-error x_at x (next op op_at e) w = two-first c op op_at x_at (expr_at e) x (as_value c (expr_at e) (expression c withs e).value).value w

  continued-error : (x_at : ℕ) (x : Coded) (ns : Nexts) → Erred x → Erred (continued c withs x_at x ns).value
  continued-error x_at x no_nexts w = w
  continued-error x_at x (more_nexts n ns) w = continued-error x_at (followed c withs x_at x n).value ns (followed-error x_at x n w)

  label-error : (base : Place) (es : Elements) (l : Label) → AreErred es → AreErred (element c withs base es l).value
  label-error base es (one_label e) w =
      add_element-set c es (element_coded c base (expr_at e) (as_value c (expr_at e) (expression c withs e).value).value).value w
  label-error base es (range_label low high) w =
      add_range-set c es (element_coded c base (expr_at low) (as_value c (expr_at low) (expression c withs low).value).value).value
      (element_coded c base (expr_at high) (as_value c (expr_at high) (expression c withs high).value).value).value w

  elements-error : (base : Place) (es : Elements) (ls : Labels) → AreErred es → AreErred (elements c withs base es ls).value
  elements-error base es no_labels w = w
  elements-error base es (more_labels l ls) w = elements-error base (element c withs base es l).value ls (label-error base es l w)

  looked-error : (es : Exprs) → Erred (looked_at c withs es).value
  looked-error no_exprs = refl
  looked-error (more_exprs e es) = looked-error es

  indexed-error : (first at : ℕ) (x : Coded) (es : Exprs) → Erred x → Erred (indexed c withs first at x es).value
  indexed-error first at x no_exprs w = w
  indexed-error first at x (more_exprs e es) w =
      let v : Coded = (as_value c (expr_at e) (expression c withs e).value).value in
      indexed-error first at (select_element c first at (expr_at e) v x).value es (select_element-error c first at (expr_at e) v x w)

  selector-error : (first : ℕ) (x : Coded) (s : Selector) → Erred x → Erred (selector c withs first x s).value
  selector-error first x (field_selector i at) w = select_field-error c first at i x w
  selector-error first x (index_selector es at) w = indexed-error first at x es w
  selector-error first x (deref_selector at) w = select_target-error c first at x w

  selected-error : (first : ℕ) (x : Coded) (ss : Selectors) → Erred x → Erred (selected c withs first x ss).value
  selected-error first x no_selectors w = w
  selected-error first x (more_selectors s ss) w = selected-error first (selector c withs first x s).value ss (selector-error first x s w)

  -- ---- steps behind an expression

  module _ {B : Type 0} (W : B → Type 0) (e : Expr) (told : QuietCoded (expression c withs e)) where
    -- as a value
    value-then : (f : Coded → Gives B) → ((v : Coded) → Erred v → W (f v).value) → ((v : Coded) → QuietOr W (f v))
        → QuietOr W (and_then (expression c withs e) (λ x. and_then (as_value c (expr_at e) x) f))
    value-then f kept q =
        let x : Coded = (expression c withs e).value in
        let v : Gives Coded = as_value c (expr_at e) x in
        quiet-then Erred W (expression c withs e) (λ y. and_then (as_value c (expr_at e) y) f) told (λ w. kept v.value (as_value-error c (expr_at e) x w))
        (quiet-then Erred W v f (as_value-quiet c (expr_at e) x) (kept v.value) (q v.value))

    -- as an element of a set
    member-then : (base : Place) (f : Coded → Gives B) → ((v : Coded) → Erred v → W (f v).value) → ((v : Coded) → QuietOr W (f v))
        → QuietOr W (and_then (expression c withs e) (λ x. and_then (as_value c (expr_at e) x) (λ v. and_then (element_coded c base (expr_at e) v) f)))
    member-then base f kept q =
        value-then (λ v. and_then (element_coded c base (expr_at e) v) f)
        (λ v w. kept (element_coded c base (expr_at e) v).value (element-error c base (expr_at e) v w))
        (λ v. quiet-then Erred W (element_coded c base (expr_at e) v) f (element-quiet c base (expr_at e) v) (kept (element_coded c base (expr_at e) v).value)
        (q (element_coded c base (expr_at e) v).value))

  -- a set of a type
  set_of-quiet : (t : Place) (items : Labels) → QuietOr AreErred (elements c withs (set_base c t) (no_elements_yet c t) items) → QuietCoded (set_of c withs t items)
  set_of-quiet t items q =
      let es : Gives Elements = elements c withs (set_base c t) (no_elements_yet c t) items in
      quiet-then AreErred Erred es (λ more. gives (set_coded t more)) q (set-error c t es.value) (quiet refl)

  -- of no type there is none
  set_of-untyped : (t : Place) (items : Labels) → IsUntyped t → Erred (set_of c withs t items).value
  set_of-untyped t items e =
      let es : Elements = (elements c withs (set_base c broken) (no_elements_yet c broken) items).value in
      subst (λ u. Erred (set_of c withs u items).value) (sym e)
      (set-error c broken es (elements-error (set_base c broken) (no_elements_yet c broken) items (no-broken_set c h)))

  -- a set of a type that is named before it
  typed_set-quiet : (d : Designator) (items : Labels) → QuietCoded (designated c withs d)
      → ((t : Place) → QuietOr AreErred (elements c withs (set_base c t) (no_elements_yet c t) items))
      → QuietCoded (form_coded c withs (typed_set_form d items))
  typed_set-quiet d items told q =
      let x : Gives Coded = designated c withs d in
      let t : Gives Place = set_type_of c (designator_at d) x.value.operand in
      quiet-then Erred Erred x (λ y. and_then (set_type_of c (designator_at d) y.operand) (λ u. set_of c withs u items)) told
      (λ w. set_of-untyped t.value items (of-error (λ o. IsUntyped (set_type_of c (designator_at d) o).value) x.value.operand w refl))
      (quiet-then IsUntyped Erred t (λ u. set_of c withs u items) (set_type-quiet c (designator_at d) x.value.operand) (set_of-untyped t.value items)
      (set_of-quiet t.value items (q t.value)))

  -- a call, in an expression or alone
  call-quiet : (is_wanted : Bool) (d : Designator) (args : Exprs) → QuietCoded (designated c withs d)
      → ((f : Builtin) → QuietCoded (standard c withs f args)) → ((ps : List Parameter) → QuietPassed (passed c withs ps args))
      → QuietCoded (and_then (designated c withs d) (λ x. called_with c withs is_wanted (designator_at d) x args))
  call-quiet is_wanted d args told s p =
      let x : Gives Coded = designated c withs d in
      let n : ℕ = count_of_exprs args in
      let what : Gives Called = called c is_wanted (designator_at d) n x.value in
      let none : IsNoCall what.value → Erred (called_as c withs args what.value).value =
      by_called-none c what.value (λ f. standard c withs f args) (λ ps. passed c withs ps args) (looked_at c withs args) (looked-error args) in
      quiet-then Erred Erred x (λ y. called_with c withs is_wanted (designator_at d) y args) told
      (λ w. none (called-error c is_wanted (designator_at d) n x.value w))
      (quiet-then IsNoCall Erred what (called_as c withs args) (called-quiet c is_wanted (designator_at d) n x.value) none
      (by_called-quiet c what.value (λ f. standard c withs f args) (λ ps. passed c withs ps args) (looked_at c withs args) s p (wrong (looked-error args))))

  -- ---- the induction

  mutual
    pub expression-quiet : (e : Expr) → QuietCoded (expression c withs e)
    expression-quiet (expr at form) = form-quiet form

    form-quiet : (f : ExprForm) → QuietCoded (form_coded c withs f)
    form-quiet (number_form n) = quiet refl
    form-quiet (char_form n) = quiet refl
    form-quiet (string_form n) = quiet refl
    form-quiet (set_form items) =
        let es : Gives Elements = elements c withs (set_base c bitset) (no_elements_yet c bitset) items in
        quiet-then AreErred Erred es (λ more. gives (set_coded bitset more)) (elements-quiet (set_base c bitset) (no_elements_yet c bitset) items)
        (set-error c bitset es.value) (quiet refl)
    form-quiet (typed_set_form d items) =
        typed_set-quiet d items (designated-quiet d) (λ t. elements-quiet (set_base c t) (no_elements_yet c t) items)
    form-quiet (name_form d) = designated-quiet d
    form-quiet (call_form d args) = call-quiet true d args (designated-quiet d) (λ f. standard-quiet f args) (λ ps. passed-quiet ps args)
    form-quiet (one_form op op_at e) =
        value-then Erred e (expression-quiet e) (one_coded c op op_at) (λ v w. one-error c op op_at v w) (λ v. one-quiet c op op_at v)
    form-quiet (many_form e rest) =
        value-then Erred e (expression-quiet e) (λ v. continued c withs (expr_at e) v rest) (λ v w. continued-error (expr_at e) v rest w)
        (λ v. continued-quiet (expr_at e) v rest)

    continued-quiet : (x_at : ℕ) (x : Coded) (ns : Nexts) → QuietCoded (continued c withs x_at x ns)
    continued-quiet x_at x no_nexts = quiet refl
    continued-quiet x_at x (more_nexts n ns) =
        let r : Gives Coded = followed c withs x_at x n in
        quiet-then Erred Erred r (λ y. continued c withs x_at y ns) (followed-quiet x_at x n) (continued-error x_at r.value ns)
        (continued-quiet x_at r.value ns)

    followed-quiet : (x_at : ℕ) (x : Coded) (n : Next) → QuietCoded (followed c withs x_at x n)
    followed-quiet x_at x (next op op_at e) =
        value-then Erred e (expression-quiet e) (λ v. two_coded c op op_at x_at x (expr_at e) v) (λ v w. two-second c op op_at x_at (expr_at e) x v w)
        (λ v. two-quiet c op op_at x_at (expr_at e) x v)

    elements-quiet : (base : Place) (es : Elements) (ls : Labels) → QuietOr AreErred (elements c withs base es ls)
    elements-quiet base es no_labels = quiet refl
    elements-quiet base es (more_labels l ls) =
        let more : Gives Elements = element c withs base es l in
        quiet-then AreErred AreErred more (λ m. elements c withs base m ls) (label-quiet base es l) (elements-error base more.value ls)
        (elements-quiet base more.value ls)

    label-quiet : (base : Place) (es : Elements) (l : Label) → QuietOr AreErred (element c withs base es l)
    label-quiet base es (one_label e) =
        member-then AreErred e (expression-quiet e) base (λ o. gives (add_element c es o)) (λ o w. add_element-error c es o w) (λ o. quiet refl)
    label-quiet base es (range_label low high) =
        let w : Coded = (as_value c (expr_at high) (expression c withs high).value).value in
        member-then AreErred low (expression-quiet low) base
        (λ o. and_then (expression c withs high) (λ y. and_then (as_value c (expr_at high) y) (λ v. and_then (element_coded c base (expr_at high) v) (λ p. gives (add_range c es o p)))))
        (λ o e. add_range-low c es o (element_coded c base (expr_at high) w).value e)
        (λ o. member-then AreErred high (expression-quiet high) base (λ p. gives (add_range c es o p)) (λ p e. add_range-high c es o p e) (λ p. quiet refl))

    passed-quiet : (ps : List Parameter) (es : Exprs) → QuietPassed (passed c withs ps es)
    passed-quiet [] no_exprs = quiet refl
    passed-quiet (p ∷ ps) no_exprs = quiet refl
    passed-quiet [] (more_exprs e es) = quiet refl
    passed-quiet (p ∷ ps) (more_exprs e es) =
        let x : Gives Coded = expression c withs e in
        let a : Gives (Option Part) = argument c p (expr_at e) x.value in
        let others : Gives (Option Part) = passed c withs ps es in
        quiet-then Erred IsMissing x (λ y. and_then (argument c p (expr_at e) y) (λ b. and_then others (λ rest. gives (after_argument b rest)))) (expression-quiet e)
        (λ w. after-first c a.value others.value (argument-error c p (expr_at e) x.value w))
        (quiet-then IsMissing IsMissing a (λ b. and_then others (λ rest. gives (after_argument b rest))) (argument-quiet c p (expr_at e) x.value)
        (after-first c a.value others.value)
        (quiet-then IsMissing IsMissing others (λ rest. gives (after_argument a.value rest)) (passed-quiet ps es) (after-second c a.value others.value) (quiet refl)))

    standard-quiet : (f : Builtin) (es : Exprs) → QuietCoded (standard c withs f es)
    standard-quiet f no_exprs = quiet refl
    standard-quiet f (more_exprs e no_exprs) =
        let x : Gives Coded = expression c withs e in
        quiet-then Erred Erred x (of_one_argument c f (expr_at e)) (expression-quiet e) (one_argument-error c h f (expr_at e) x.value)
        (one_argument-quiet c h f (expr_at e) x.value)
    standard-quiet f (more_exprs e (more_exprs e' others)) =
        let x : Gives Coded = expression c withs e in
        let v : Gives Coded = first_of_two c f (expr_at e) x.value in
        let y : Gives Coded = expression c withs e' in
        quiet-then Erred Erred x (λ z. and_then (first_of_two c f (expr_at e) z) (λ u. and_then y (of_two_arguments c f (expr_at e) u (expr_at e')))) (expression-quiet e)
        (λ w. two_arguments-first c h f (expr_at e) v.value (expr_at e') y.value (first-error c f (expr_at e) x.value w))
        (quiet-then Erred Erred v (λ u. and_then y (of_two_arguments c f (expr_at e) u (expr_at e'))) (first-quiet c f (expr_at e) x.value)
        (two_arguments-first c h f (expr_at e) v.value (expr_at e') y.value)
        (quiet-then Erred Erred y (of_two_arguments c f (expr_at e) v.value (expr_at e')) (expression-quiet e')
        (two_arguments-second c f (expr_at e) v.value (expr_at e') y.value) (two_arguments-quiet c h f (expr_at e) v.value (expr_at e') y.value)))

    pub designated-quiet : (d : Designator) → QuietCoded (designated c withs d)
    designated-quiet (designator i rest) =
        let x : Gives Coded = name_coded c withs i in
        quiet-then Erred Erred x (λ y. selected c withs i.at y rest) (name-quiet c withs i) (selected-error i.at x.value rest) (selected-quiet i.at x.value rest)

    selected-quiet : (first : ℕ) (x : Coded) (ss : Selectors) → QuietCoded (selected c withs first x ss)
    selected-quiet first x no_selectors = quiet refl
    selected-quiet first x (more_selectors s ss) =
        let y : Gives Coded = selector c withs first x s in
        quiet-then Erred Erred y (λ z. selected c withs first z ss) (selector-quiet first x s) (selected-error first y.value ss) (selected-quiet first y.value ss)

    selector-quiet : (first : ℕ) (x : Coded) (s : Selector) → QuietCoded (selector c withs first x s)
    selector-quiet first x (field_selector i at) = select_field-quiet c first at i x
    selector-quiet first x (index_selector es at) = indexed-quiet first at x es
    selector-quiet first x (deref_selector at) = select_target-quiet c first at x

    indexed-quiet : (first at : ℕ) (x : Coded) (es : Exprs) → QuietCoded (indexed c withs first at x es)
    indexed-quiet first at x no_exprs = quiet refl
    indexed-quiet first at x (more_exprs e es) =
        value-then Erred e (expression-quiet e) (λ v. and_then (select_element c first at (expr_at e) v x) (λ y. indexed c withs first at y es))
        (λ v w. indexed-error first at (select_element c first at (expr_at e) v x).value es (select_element-index c first at (expr_at e) v x w))
        (λ v. quiet-then Erred Erred (select_element c first at (expr_at e) v x) (λ y. indexed c withs first at y es) (select_element-quiet c first at (expr_at e) v x)
        (indexed-error first at (select_element c first at (expr_at e) v x).value es)
        (indexed-quiet first at (select_element c first at (expr_at e) v x).value es))

  pub value-quiet : (e : Expr) → QuietCoded (value c withs e)
  value-quiet e =
      let x : Gives Coded = expression c withs e in
      quiet-then Erred Erred x (as_value c (expr_at e)) (expression-quiet e) (as_value-error c (expr_at e) x.value) (as_value-quiet c (expr_at e) x.value)

  call_alone-quiet : (d : Designator) (args : Exprs) → QuietCoded (call_alone c withs d args)
  call_alone-quiet d args = call-quiet false d args (designated-quiet d) (λ f. standard-quiet f args) (λ ps. passed-quiet ps args)

-- what isn't in error was refused nowhere
unrefused : (g : Gives Coded) → QuietCoded g → is_bad g.value.operand ≡ false → g.diags ≡ []
unrefused g q b = quiet-unless Erred g q (right g.value b)
  where
    right : (x : Coded) → is_bad x.operand ≡ false → Erred x → ⊥
    right x b e = let t : is_bad x.operand ≡ true = ap is_bad e in cc

pub expression-unrefused : (c : Context) (withs : List Place) (e : Expr) → BrokenIsThere c → is_bad (expression c withs e).value.operand ≡ false
    → (expression c withs e).diags ≡ []
expression-unrefused c withs e h = unrefused (expression c withs e) (expression-quiet c h withs e)

pub value-unrefused : (c : Context) (withs : List Place) (e : Expr) → BrokenIsThere c → is_bad (value c withs e).value.operand ≡ false
    → (value c withs e).diags ≡ []
value-unrefused c withs e h = unrefused (value c withs e) (value-quiet c h withs e)

pub designator-unrefused : (c : Context) (withs : List Place) (d : Designator) → BrokenIsThere c → is_bad (designated c withs d).value.operand ≡ false
    → (designated c withs d).diags ≡ []
designator-unrefused c withs d h = unrefused (designated c withs d) (designated-quiet c h withs d)

pub call-unrefused : (c : Context) (withs : List Place) (d : Designator) (args : Exprs) → BrokenIsThere c
    → is_bad (call_alone c withs d args).value.operand ≡ false → (call_alone c withs d args).diags ≡ []
call-unrefused c withs d args h = unrefused (call_alone c withs d args) (call_alone-quiet c h withs d args)
