-- The code of every expression, designator and call is right, and what stands for it has values in range.
use Rattle.std.specs.Prelude.{ℕ, ◌≤◌, true, false, pos, List, [], ◌∷◌, length, Option}
use Rattle.std.proofs.Common.{arith}
use Rattle.code_form.specs.Heights.{Step}
use Rattle.block_code.specs.Arguments.{argument}
use Rattle.block_code.specs.Calls.{called}
use Rattle.block_code.specs.Coded.{Coded}
use Rattle.block_code.specs.Elements.{select_element}
use Rattle.block_code.specs.Expressions.{call_alone, continued, count_of_exprs, designated, element, elements, expression, followed, form_coded, indexed, looked_at, passed, selected, selector, standard, value}
use Rattle.block_code.specs.Operators.{one_coded}
use Rattle.block_code.specs.Parts.{Part}
use Rattle.block_code.specs.RecordFields.{name_coded}
use Rattle.block_code.specs.SetElements.{Elements, element_coded, no_elements_yet, set_by}
use Rattle.block_code.specs.StandardProcedures.{first_of_two}
use Rattle.block_code.specs.Values.{as_value}
use Rattle.m2_base.proofs.SoundOperands.{natural-value}
use Rattle.m2_base.specs.Gives.{Gives}
use Rattle.m2_base.specs.declared.rows.Place.{Place}
use Rattle.m2_base.specs.Standard.{bitset, character, whole}
use Rattle.m2_base.specs.Statics.Contexts.{Context}
use Rattle.m2_base.specs.Statics.Operands.{string_length}
use Rattle.m2_base.specs.Statics.ReadTrees.{AreReadExprs, AreReadLabels, AreReadNexts, AreReadSelectors, IsReadDesignator, IsReadExpr, IsReadForm, IsReadLabel, IsReadNext, IsReadSelector}
use Rattle.m2_base.specs.Statics.Sets.{set_base, set_type_of}
use Rattle.m2_base.specs.Statics.TypeParts.{Parameter}
use Rattle.m2_base.specs.Trees.{Designator, Expr, ExprForm, Exprs, Label, Labels, Next, Nexts, Selector, Selectors, call_form, char_form, deref_selector, designator, designator_at, expr, expr_at, field_selector, index_selector, many_form, more_exprs, more_labels, more_nexts, more_selectors, name_form, next, no_exprs, no_labels, no_nexts, no_selectors, number_form, one_form, one_label, range_label, set_form, string_form, typed_set_form}
use Rattle.m2_base.specs.declared.builtins.Builtin.{Builtin}
use Rattle.m2_base.specs.declared.operands.Operand.TheVariants.{Constant, StringConstant}
use Rattle.block_laws.proofs.Results.{no_elements-values}
use Rattle.block_laws.proofs.Coded.{E, IsProcedureValue, Setting, W, X, add_element-e, add_range-e, as_value-w, bare-x, element-w, error-x, first-x, no_argument-x, nothing-right, one_argument-x, one_coded-w, set_go, two_arguments-x, two_coded-w, worth-x}
use Rattle.block_laws.proofs.Designators.{RIf, after-r, argument-r, by_called-x, called-c, field_go, name-x, select_go, target_go}

module _ (q : Step → Type 0) (seen : ℕ → Type 0) (cells bytes : ℕ) (c : Context) (n from : ℕ) (set : Setting q seen cells bytes c) (names : List (List ℕ)) (withs : List Place) (few : length withs ≤ n) where
  abbrev CX : Coded → Type 0
  CX x = X q seen cells bytes c n from set x

  abbrev CW : Coded → Type 0
  CW x = W q seen cells bytes c n from set x

  abbrev CE : Elements → Type 0
  CE es = E q seen cells bytes c n from set es

  abbrev GX : Gives Coded → Type 0
  GX g = CX g.value

  abbrev GR : Gives (Option Part) → Type 0
  GR g = RIf q seen cells bytes c n from set g.value

  worth : (at : ℕ) (x : Coded) → CX x → CW (as_value c at x).value
  worth at x g = as_value-w q seen cells bytes c n from set at x g

  no_elements-e : (t : Place) → CE (no_elements_yet c t)
  no_elements-e t = (no_elements-values seen (λ name u k s. IsProcedureValue seen c.scene name u k s) c t, nothing-right q seen cells bytes c n from set)

  set-x : (t : Place) (es : Elements) → CE es → CX (set_by t es.code es.set)
  set-x t es g = worth-x q seen cells bytes c n from set (set_by t es.code es.set) (set_go q seen cells bytes c n from set t es.code es.set g.0 g.1)

  mutual
    pub expression-x : (e : Expr) → IsReadExpr names e → GX (expression c withs e)
    expression-x (expr at form) h = form-x form h

    pub form-x : (f : ExprForm) → IsReadForm names f → GX (form_coded c withs f)
    form-x (number_form k) h = bare-x q seen cells bytes c n from set (Constant whole (pos k)) (natural-value k h)
    form-x (char_form k) h = bare-x q seen cells bytes c n from set (Constant character (pos k)) (natural-value k (omega (arith, h)))
    form-x (string_form name) h = bare-x q seen cells bytes c n from set (StringConstant name (string_length c.source name)) (set.texts.short name)
    form-x (set_form items) h =
        set-x bitset (elements c withs (set_base c bitset) (no_elements_yet c bitset) items).value
        (elements-e (set_base c bitset) (no_elements_yet c bitset) items (no_elements-e bitset) h)
    form-x (typed_set_form d items) h =
        let t : Place = (set_type_of c (designator_at d) (designated c withs d).value.operand).value in
        set-x t (elements c withs (set_base c t) (no_elements_yet c t) items).value
        (elements-e (set_base c t) (no_elements_yet c t) items (no_elements-e t) h.1)
    form-x (name_form d) h = designated-x d h
    form-x (call_form d args) h =
        by_called-x q seen cells bytes c n from set (called c true (designator_at d) (count_of_exprs args) (designated c withs d).value).value
        (λ f. standard c withs f args) (λ ps. passed c withs ps args) (looked_at c withs args)
        (called-c q seen cells bytes c n from set true (designator_at d) (count_of_exprs args) (designated c withs d).value (designated-x d h.0))
        (λ f. standard-x f args h.1) (λ ps. passed-r ps args h.1) (looked-x args)
    form-x (one_form op op_at e) h =
        worth-x q seen cells bytes c n from set (one_coded c op op_at (as_value c (expr_at e) (expression c withs e).value).value).value
        (one_coded-w q seen cells bytes c n from set op op_at (as_value c (expr_at e) (expression c withs e).value).value
        (worth (expr_at e) (expression c withs e).value (expression-x e h)))
    form-x (many_form e rest) h =
        worth-x q seen cells bytes c n from set (continued c withs (expr_at e) (as_value c (expr_at e) (expression c withs e).value).value rest).value
        (continued-w (expr_at e) (as_value c (expr_at e) (expression c withs e).value).value rest
        (worth (expr_at e) (expression c withs e).value (expression-x e h.0)) h.1)

    pub continued-w : (x_at : ℕ) (x : Coded) (ns : Nexts) → CW x → AreReadNexts names ns → CW (continued c withs x_at x ns).value
    continued-w x_at x no_nexts g h = g
    continued-w x_at x (more_nexts m ns) g h = continued-w x_at (followed c withs x_at x m).value ns (followed-w x_at x m g h.0) h.1

    pub followed-w : (x_at : ℕ) (x : Coded) (m : Next) → CW x → IsReadNext names m → CW (followed c withs x_at x m).value
    followed-w x_at x (next op op_at e) g h =
        two_coded-w q seen cells bytes c n from set op op_at x_at x (expr_at e) (as_value c (expr_at e) (expression c withs e).value).value g
        (worth (expr_at e) (expression c withs e).value (expression-x e h))

    pub elements-e : (base : Place) (es : Elements) (ls : Labels) → CE es → AreReadLabels names ls → CE (elements c withs base es ls).value
    elements-e base es no_labels f h = f
    elements-e base es (more_labels l ls) f h = elements-e base (element c withs base es l).value ls (label-e base es l f h.0) h.1

    pub label-e : (base : Place) (es : Elements) (l : Label) → CE es → IsReadLabel names l → CE (element c withs base es l).value
    label-e base es (one_label e) f h =
        let v : Coded = (as_value c (expr_at e) (expression c withs e).value).value in
        add_element-e q seen cells bytes c n from set es (element_coded c base (expr_at e) v).value f
        (element-w q seen cells bytes c n from set base (expr_at e) v (worth (expr_at e) (expression c withs e).value (expression-x e h)))
    label-e base es (range_label low high) f h =
        let v : Coded = (as_value c (expr_at low) (expression c withs low).value).value in
        let w : Coded = (as_value c (expr_at high) (expression c withs high).value).value in
        add_range-e q seen cells bytes c n from set es (element_coded c base (expr_at low) v).value (element_coded c base (expr_at high) w).value f
        (element-w q seen cells bytes c n from set base (expr_at low) v (worth (expr_at low) (expression c withs low).value (expression-x low h.0)))
        (element-w q seen cells bytes c n from set base (expr_at high) w (worth (expr_at high) (expression c withs high).value (expression-x high h.1)))

    pub passed-r : (ps : List Parameter) (es : Exprs) → AreReadExprs names es → GR (passed c withs ps es)
    passed-r [] no_exprs h = nothing-right q seen cells bytes c n from set
    passed-r (p ∷ ps) no_exprs h = tt
    passed-r [] (more_exprs e es) h = tt
    passed-r (p ∷ ps) (more_exprs e es) h =
        after-r q seen cells bytes c n from set (argument c p (expr_at e) (expression c withs e).value).value (passed c withs ps es).value
        (argument-r q seen cells bytes c n from set p (expr_at e) (expression c withs e).value (expression-x e h.0)) (passed-r ps es h.1)

    pub looked-x : (es : Exprs) → GX (looked_at c withs es)
    looked-x no_exprs = error-x q seen cells bytes c n from set
    looked-x (more_exprs e es) = looked-x es

    pub standard-x : (f : Builtin) (es : Exprs) → AreReadExprs names es → GX (standard c withs f es)
    standard-x f no_exprs h = no_argument-x q seen cells bytes c n from set f
    standard-x f (more_exprs a no_exprs) h = one_argument-x q seen cells bytes c n from set f (expr_at a) (expression c withs a).value (expression-x a h.0)
    standard-x f (more_exprs a (more_exprs b others)) h =
        two_arguments-x q seen cells bytes c n from set f (expr_at a) (first_of_two c f (expr_at a) (expression c withs a).value).value (expr_at b) (expression c withs b).value
        (first-x q seen cells bytes c n from set f (expr_at a) (expression c withs a).value (expression-x a h.0)) (expression-x b h.1.0)

    pub designated-x : (d : Designator) → IsReadDesignator names d → GX (designated c withs d)
    designated-x (designator i rest) h =
        selected-x i.at (name_coded c withs i).value rest (name-x q seen cells bytes c n from set withs i few) h.1

    pub selected-x : (first : ℕ) (x : Coded) (ss : Selectors) → CX x → AreReadSelectors names ss → GX (selected c withs first x ss)
    selected-x first x no_selectors g h = g
    selected-x first x (more_selectors s ss) g h = selected-x first (selector c withs first x s).value ss (selector-x first x s g h.0) h.1

    pub selector-x : (first : ℕ) (x : Coded) (s : Selector) → CX x → IsReadSelector names s → GX (selector c withs first x s)
    selector-x first x (field_selector i at) g h = field_go q seen cells bytes c n from set first at i x.code x.operand g.0 g.1.0
    selector-x first x (index_selector es at) g h = indexed-x first at x es g h
    selector-x first x (deref_selector at) g h = target_go q seen cells bytes c n from set first at x.code x.operand g.1.0

    pub indexed-x : (first at : ℕ) (x : Coded) (es : Exprs) → CX x → AreReadExprs names es → GX (indexed c withs first at x es)
    indexed-x first at x no_exprs g h = g
    indexed-x first at x (more_exprs e es) g h =
        let v : Coded = (as_value c (expr_at e) (expression c withs e).value).value in
        indexed-x first at (select_element c first at (expr_at e) v x).value es
        (select_go q seen cells bytes c n from set first at (expr_at e) v x x.operand g (worth (expr_at e) (expression c withs e).value (expression-x e h.0))) h.1

  -- where a value is wanted
  pub value-w : (e : Expr) → IsReadExpr names e → CW (value c withs e).value
  value-w e h = worth (expr_at e) (expression c withs e).value (expression-x e h)

  -- a call as a statement
  pub call_alone-x : (d : Designator) (args : Exprs) → IsReadDesignator names d → AreReadExprs names args → GX (call_alone c withs d args)
  call_alone-x d args h k =
      by_called-x q seen cells bytes c n from set (called c false (designator_at d) (count_of_exprs args) (designated c withs d).value).value
      (λ f. standard c withs f args) (λ ps. passed c withs ps args) (looked_at c withs args)
      (called-c q seen cells bytes c n from set false (designator_at d) (count_of_exprs args) (designated c withs d).value (designated-x d h))
      (λ f. standard-x f args k) (λ ps. passed-r ps args k) (looked-x args)
