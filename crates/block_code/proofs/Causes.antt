-- Where no row in sight has a part in error, an expression is in error only with a diagnostic: by induction on the syntax.
use Rattle.std.specs.Prelude.{◌≡◌, ℕ, true, false, List, [], ◌∷◌, length, Option}
use Rattle.std.proofs.Common.{arith}
use Rattle.m2_base.specs.Gives.{Gives}
use Rattle.m2_base.specs.Lists.{Each}
use Rattle.m2_base.specs.declared.builtins.Builtin.{Builtin}
use Rattle.m2_base.specs.declared.rows.Place.{Place}
use Rattle.m2_base.specs.Standard.{bitset}
use Rattle.m2_base.specs.Statics.Contexts.{Context, Scene}
use Rattle.m2_base.specs.Statics.Operands.{is_bad}
use Rattle.m2_base.specs.Statics.ReadTrees.{AreReadExprs, AreReadLabels, AreReadNexts, AreReadSelectors, IsReadDesignator, IsReadExpr, IsReadForm, IsReadLabel, IsReadNext, IsReadSelector}
use Rattle.m2_base.specs.Statics.Sets.{set_base}
use Rattle.m2_base.specs.Statics.TypeParts.{Parameter}
use Rattle.m2_base.specs.Trees.{Designator, Expr, ExprForm, Exprs, Label, Labels, Next, Nexts, Selector, Selectors, call_form, char_form, deref_selector, designator, designator_at, expr, expr_at, field_selector, index_selector, many_form, more_exprs, more_labels, more_nexts, more_selectors, name_form, next, no_exprs, no_labels, no_nexts, no_selectors, number_form, one_form, one_label, range_label, set_form, string_form, typed_set_form}
use Rattle.block_code.proofs.Noted.{UnlessNoted, and_gives, given, in_turn}
use Rattle.block_code.proofs.WholeCalls.{IsCalled, IsGiven, after-given, argument-given, call-stands, called-called}
use Rattle.block_code.proofs.WholeOperands.{HasWholeBase, no_elements-set, not_bad, set_type-whole}
use Rattle.block_code.proofs.WholeProcedures.{first-stands, no_argument-stands, one_argument-stands, two_arguments-stands}
use Rattle.block_code.proofs.WholeRows.{IsWholeParameter, bitset-whole}
use Rattle.block_code.proofs.WholeValues.{AreElements, Stands, add_element-set, add_range-set, as_value-stands, element-stands, name-stands, one-stands, select_element-stands, select_field-stands, set-stands, target-stands, two-stands}
use Rattle.block_code.specs.Arguments.{after_argument}
use Rattle.block_code.specs.Calls.{Called, call_coded, lacking_call, no_call, procedure_call, standard_call}
use Rattle.block_code.specs.Coded.{Coded}
use Rattle.block_code.specs.Expressions.{by_called, call_alone, continued, count_of_exprs, designated, element, elements, expression, followed, form_coded, indexed, looked_at, passed, selected, selector, standard, value}
use Rattle.block_code.specs.Parts.{Part}
use Rattle.block_code.specs.SetElements.{Elements, add_element, add_range, no_elements_yet, set_coded}
use Rattle.block_code.specs.StandardProcedures.{takes_count}
use Rattle.block_code.specs.Whole.{AreWhole}

-- what a call gives, by what is called
by_called-stands : (c : Context) (n : ℕ) (what : Called) (standard_of : Builtin → Gives Coded) (passed_of : List Parameter → Gives (Option Part)) (looked : Gives Coded)
    → IsCalled c.scene n what → ((f : Builtin) → takes_count f n ≡ true → UnlessNoted (Stands c.scene) (standard_of f))
    → ((ps : List Parameter) → n ≡ length ps → Each (IsWholeParameter c.scene) ps → UnlessNoted IsGiven (passed_of ps))
    → UnlessNoted (Stands c.scene) (by_called c what standard_of passed_of looked)
by_called-stands c n (standard_call f) standard_of passed_of looked h s p = s f h
by_called-stands c n (procedure_call ps before i result more) standard_of passed_of looked h s p =
    and_gives (call_coded c.scene ps before i result more) (p ps h.0 h.1) (λ args k. call-stands c.scene ps before i result more args h.2 k)
by_called-stands c n (lacking_call ps) standard_of passed_of looked h s p = absurd h
by_called-stands c n no_call standard_of passed_of looked h s p = absurd h

module _ (names : List (List ℕ)) (c : Context) (rows : AreWhole c.scene) (withs : List Place) where
  mutual
    pub expression-stands : (e : Expr) → IsReadExpr names e → UnlessNoted (Stands c.scene) (expression c withs e)
    expression-stands (expr at form) r = form-stands form r

    pub form-stands : (f : ExprForm) → IsReadForm names f → UnlessNoted (Stands c.scene) (form_coded c withs f)
    form-stands (number_form n) r = given tt
    form-stands (char_form n) r = given tt
    form-stands (string_form n) r = given tt
    form-stands (set_form items) r =
        and_gives (set_coded bitset)
        (elements-stand bitset (bitset-whole c.scene rows) (no_elements_yet c bitset) items (no_elements-set c bitset (bitset-whole c.scene rows)) r)
        (λ es h. set-stands c.scene bitset es h)
    form-stands (typed_set_form d items) r =
        in_turn (designated-stands d r.0) (λ x h.
        in_turn (set_type-whole c rows (designator_at d) x.operand h) (λ t w.
        and_gives (set_coded t) (elements-stand t w (no_elements_yet c t) items (no_elements-set c t w) r.1) (λ es k. set-stands c.scene t es k)))
    form-stands (name_form d) r = designated-stands d r
    form-stands (call_form d args) r =
        in_turn (designated-stands d r.0) (λ x h.
        in_turn (called-called c rows true (designator_at d) (count_of_exprs args) x h) (λ what k.
        by_called-stands c (count_of_exprs args) what (λ f. standard c withs f args) (λ ps. passed c withs ps args) (looked_at c withs args) k
        (λ f e. standard-stands f args e r.1) (λ ps e w. passed-given ps args e w r.1)))
    form-stands (one_form op op_at e) r =
        in_turn (expression-stands e r) (λ x h. in_turn (as_value-stands c (expr_at e) x h) (λ v k. one-stands c op op_at v k))
    form-stands (many_form first rest) r =
        in_turn (expression-stands first r.0) (λ x h. in_turn (as_value-stands c (expr_at first) x h) (λ v k. continued-stands (expr_at first) v rest k r.1))

    pub continued-stands : (x_at : ℕ) (x : Coded) (ns : Nexts) → Stands c.scene x → AreReadNexts names ns → UnlessNoted (Stands c.scene) (continued c withs x_at x ns)
    continued-stands x_at x no_nexts h r = given h
    continued-stands x_at x (more_nexts n ns) h r = in_turn (followed-stands x_at x n h r.0) (λ y k. continued-stands x_at y ns k r.1)

    pub followed-stands : (x_at : ℕ) (x : Coded) (n : Next) → Stands c.scene x → IsReadNext names n → UnlessNoted (Stands c.scene) (followed c withs x_at x n)
    followed-stands x_at x (next op op_at e) h r =
        in_turn (expression-stands e r) (λ y k. in_turn (as_value-stands c (expr_at e) y k) (λ v l. two-stands c rows op op_at x_at x (expr_at e) v h l))

    pub elements-stand : (t : Place) → HasWholeBase c t → (es : Elements) (ls : Labels) → AreElements es → AreReadLabels names ls
        → UnlessNoted AreElements (elements c withs (set_base c t) es ls)
    elements-stand t w es no_labels h r = given h
    elements-stand t w es (more_labels l ls) h r = in_turn (label-stands t w es l h r.0) (λ more k. elements-stand t w more ls k r.1)

    pub label-stands : (t : Place) → HasWholeBase c t → (es : Elements) (l : Label) → AreElements es → IsReadLabel names l
        → UnlessNoted AreElements (element c withs (set_base c t) es l)
    label-stands t w es (one_label e) h r =
        in_turn (expression-stands e r) (λ x k.
        in_turn (as_value-stands c (expr_at e) x k) (λ v l.
        and_gives (add_element c es) (element-stands c (set_base c t) (expr_at e) v w l) (λ o m. add_element-set c es o h m)))
    label-stands t w es (range_label low high) h r =
        in_turn (expression-stands low r.0) (λ x k.
        in_turn (as_value-stands c (expr_at low) x k) (λ v l.
        in_turn (element-stands c (set_base c t) (expr_at low) v w l) (λ o m.
        in_turn (expression-stands high r.1) (λ y k'.
        in_turn (as_value-stands c (expr_at high) y k') (λ v' l'.
        and_gives (add_range c es o) (element-stands c (set_base c t) (expr_at high) v' w l') (λ p m'. add_range-set c es o p h m m'))))))

    pub passed-given : (ps : List Parameter) (es : Exprs) → count_of_exprs es ≡ length ps → Each (IsWholeParameter c.scene) ps → AreReadExprs names es
        → UnlessNoted IsGiven (passed c withs ps es)
    passed-given [] no_exprs e w r = given tt
    passed-given (p ∷ ps) no_exprs e w r = absurd cc
    passed-given [] (more_exprs a es) e w r = absurd cc
    passed-given (p ∷ ps) (more_exprs a es) e w r =
        in_turn (expression-stands a r.0) (λ x h.
        in_turn (argument-given c rows p (expr_at a) x w.0 h) (λ given_one k.
        and_gives (after_argument given_one) (passed-given ps es (omega (arith, e)) w.1 r.1) (λ others l. after-given given_one others k l)))

    pub standard-stands : (f : Builtin) (es : Exprs) → takes_count f (count_of_exprs es) ≡ true → AreReadExprs names es → UnlessNoted (Stands c.scene) (standard c withs f es)
    standard-stands f no_exprs e r = given (no_argument-stands c rows f e)
    standard-stands f (more_exprs a no_exprs) e r = in_turn (expression-stands a r.0) (λ x h. one_argument-stands c rows f (expr_at a) x e h)
    standard-stands f (more_exprs a (more_exprs b others)) e r =
        in_turn (expression-stands a r.0) (λ x h.
        in_turn (first-stands c rows f (expr_at a) x h) (λ v k.
        in_turn (expression-stands b r.1.0) (λ y l.
        two_arguments-stands c rows f (count_of_exprs others) (expr_at a) v (expr_at b) y e k l)))

    pub designated-stands : (d : Designator) → IsReadDesignator names d → UnlessNoted (Stands c.scene) (designated c withs d)
    designated-stands (designator i rest) r = in_turn (name-stands c rows withs i r.0) (λ x h. selected-stands i.at x rest h r.1)

    pub selected-stands : (first : ℕ) (x : Coded) (ss : Selectors) → Stands c.scene x → AreReadSelectors names ss → UnlessNoted (Stands c.scene) (selected c withs first x ss)
    selected-stands first x no_selectors h r = given h
    selected-stands first x (more_selectors s ss) h r = in_turn (selector-stands first x s h r.0) (λ y k. selected-stands first y ss k r.1)

    pub selector-stands : (first : ℕ) (x : Coded) (s : Selector) → Stands c.scene x → IsReadSelector names s → UnlessNoted (Stands c.scene) (selector c withs first x s)
    selector-stands first x (field_selector i at) h r = select_field-stands c rows first at i x r h
    selector-stands first x (index_selector es at) h r = indexed-stands first at x es h r
    selector-stands first x (deref_selector at) h r = target-stands c rows first at x h

    pub indexed-stands : (first at : ℕ) (x : Coded) (es : Exprs) → Stands c.scene x → AreReadExprs names es → UnlessNoted (Stands c.scene) (indexed c withs first at x es)
    indexed-stands first at x no_exprs h r = given h
    indexed-stands first at x (more_exprs e es) h r =
        in_turn (expression-stands e r.0) (λ i k.
        in_turn (as_value-stands c (expr_at e) i k) (λ v l.
        in_turn (select_element-stands c rows first at (expr_at e) v x l h) (λ y m. indexed-stands first at y es m r.1)))

  value-stands : (e : Expr) → IsReadExpr names e → UnlessNoted (Stands c.scene) (value c withs e)
  value-stands e r = in_turn (expression-stands e r) (λ x h. as_value-stands c (expr_at e) x h)

  call-alone-stands : (d : Designator) (args : Exprs) → IsReadDesignator names d → AreReadExprs names args → UnlessNoted (Stands c.scene) (call_alone c withs d args)
  call-alone-stands d args r s =
      in_turn (designated-stands d r) (λ x h.
      in_turn (called-called c rows false (designator_at d) (count_of_exprs args) x h) (λ what k.
      by_called-stands c (count_of_exprs args) what (λ f. standard c withs f args) (λ ps. passed c withs ps args) (looked_at c withs args) k
      (λ f e. standard-stands f args e s) (λ ps e w. passed-given ps args e w s)))

-- what is in error has a diagnostic
refused : (scene : Scene) (g : Gives Coded) → UnlessNoted (Stands scene) g → is_bad g.value.operand ≡ true → g.diags ≡ [] → ⊥
refused scene g h b e = let k : is_bad g.value.operand ≡ false = not_bad scene g.value.operand (h.holds e) in cc

pub expression-refused : (names : List (List ℕ)) (c : Context) (withs : List Place) (e : Expr) → AreWhole c.scene → IsReadExpr names e
    → is_bad (expression c withs e).value.operand ≡ true → (expression c withs e).diags ≡ [] → ⊥
expression-refused names c withs e rows r = refused c.scene (expression c withs e) (expression-stands names c rows withs e r)

pub value-refused : (names : List (List ℕ)) (c : Context) (withs : List Place) (e : Expr) → AreWhole c.scene → IsReadExpr names e
    → is_bad (value c withs e).value.operand ≡ true → (value c withs e).diags ≡ [] → ⊥
value-refused names c withs e rows r = refused c.scene (value c withs e) (value-stands names c rows withs e r)

pub designator-refused : (names : List (List ℕ)) (c : Context) (withs : List Place) (d : Designator) → AreWhole c.scene → IsReadDesignator names d
    → is_bad (designated c withs d).value.operand ≡ true → (designated c withs d).diags ≡ [] → ⊥
designator-refused names c withs d rows r = refused c.scene (designated c withs d) (designated-stands names c rows withs d r)

pub call-refused : (names : List (List ℕ)) (c : Context) (withs : List Place) (d : Designator) (args : Exprs) → AreWhole c.scene → IsReadDesignator names d → AreReadExprs names args
    → is_bad (call_alone c withs d args).value.operand ≡ true → (call_alone c withs d args).diags ≡ [] → ⊥
call-refused names c withs d args rows r s = refused c.scene (call_alone c withs d args) (call-alone-stands names c rows withs d args r s)
