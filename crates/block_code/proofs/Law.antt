-- The law of heights: whatever an expression is, the code of its value leaves one operand, and never takes what was there
-- before; a variable's code leaves its address. By induction on the syntax.
use Rattle.std.specs.Prelude.{◌≡◌, refl, ℕ, true, false, List, [], ◌∷◌}
use Rattle.block_code.proofs.Moves.{Moves-none}
use Rattle.block_code.proofs.ValueHeights.{Good, GoodAs, Valued, as_value-good, value-moves, one_coded-good, two_coded-valued, GoodSet, element-good, add_element-good, add_range-good, set-good}
use Rattle.block_code.proofs.Functions.{no_argument-good, one_argument-good, two_arguments-good}
use Rattle.block_code.proofs.Designators.{name-good, select_field-good, select_target-good, select_element-good}
use Rattle.block_code.proofs.Passing.{Passes, argument-good, after-all, called-good, by_called-good}
use Rattle.block_code.specs.Arguments.{argument}
use Rattle.block_code.specs.Calls.{called, cells_of_all}
use Rattle.block_code.specs.Coded.{Coded, value_code}
use Rattle.block_code.specs.Elements.{select_element}
use Rattle.block_code.specs.Expressions.{continued, count_of_exprs, designated, element, elements, expression, followed, form_coded, indexed, looked_at, passed, selected, selector, standard, value}
use Rattle.block_code.specs.Heights.{IsAddressed, IsAddressedBy, Moves}
use Rattle.block_code.specs.Parts.{Part, none}
use Rattle.block_code.specs.RecordFields.{name_coded}
use Rattle.block_code.specs.SetElements.{Elements, element_coded, no_elements_yet}
use Rattle.block_code.specs.StandardProcedures.{first_of_two, is_function}
use Rattle.block_code.specs.Values.{as_value}
use Rattle.m2_base.specs.Standard.{bitset}
use Rattle.m2_base.specs.Statics.Contexts.{Context, Scene}
use Rattle.m2_base.specs.Statics.Operands.{is_bad}
use Rattle.m2_base.specs.Statics.Sets.{set_base, set_type_of}
use Rattle.m2_base.specs.Statics.TypeParts.{Parameter}
use Rattle.m2_base.specs.Trees.{Designator, Expr, ExprForm, Exprs, Label, Labels, Next, Nexts, Selector, Selectors, call_form, char_form, deref_selector, designator, designator_at, expr, expr_at, field_selector, index_selector, many_form, more_exprs, more_labels, more_nexts, more_selectors, name_form, next, no_exprs, no_labels, no_nexts, no_selectors, number_form, one_form, one_label, range_label, set_form, string_form, typed_set_form}
use Rattle.m2_base.specs.declared.builtins.Builtin.{Builtin}
use Rattle.m2_base.specs.declared.operands.Operand.{Operand}
use Rattle.m2_base.specs.declared.operands.Operand.TheVariants.{InError, NotConstant, Variable}
use Rattle.m2_base.specs.declared.rows.Place.{Place}

none_yet : (c : Context) (t : Place) → GoodSet (no_elements_yet c t)
none_yet c t = λ e. Moves-none 1

mutual
  pub expression-good : (c : Context) (withs : List Place) (e : Expr) → Good c.scene (expression c withs e).value
  expression-good c withs (expr at form) = form-good c withs form

  pub form-good : (c : Context) (withs : List Place) (f : ExprForm) → Good c.scene (form_coded c withs f).value
  form-good c withs (number_form n) = tt
  form-good c withs (char_form n) = tt
  form-good c withs (string_form n) = tt
  form-good c withs (set_form items) =
      set-good c.scene bitset (elements c withs (set_base c bitset) (no_elements_yet c bitset) items).value
      (elements-good c withs (set_base c bitset) (no_elements_yet c bitset) items (none_yet c bitset))
  form-good c withs (typed_set_form d items) =
      let t : Place = (set_type_of c (designator_at d) (designated c withs d).value.operand).value in
      set-good c.scene t (elements c withs (set_base c t) (no_elements_yet c t) items).value
      (elements-good c withs (set_base c t) (no_elements_yet c t) items (none_yet c t))
  form-good c withs (name_form d) = designated-good c withs d
  form-good c withs (call_form d args) =
      by_called-good c (called c true (designator_at d) (count_of_exprs args) (designated c withs d).value).value
      (λ f. standard c withs f args) (λ ps. passed c withs ps args) (looked_at c withs args)
      (called-good c true (designator_at d) (count_of_exprs args) (designated c withs d).value (designated-good c withs d))
      (λ f e. standard-good c withs f args e) (λ ps. passed-good c withs ps args) (looked-good c withs args)
  form-good c withs (one_form op op_at e) =
      one_coded-good c op op_at (as_value c (expr_at e) (expression c withs e).value).value
      (as_value-good c (expr_at e) (expression c withs e).value (expression-good c withs e))
  form-good c withs (many_form e rest) =
      continued-good c withs (expr_at e) (as_value c (expr_at e) (expression c withs e).value).value rest
      (as_value-good c (expr_at e) (expression c withs e).value (expression-good c withs e))

  pub continued-good : (c : Context) (withs : List Place) (x_at : ℕ) (x : Coded) (ns : Nexts) → Valued c.scene x
      → Good c.scene (continued c withs x_at x ns).value
  continued-good c withs x_at x no_nexts v = v.0
  continued-good c withs x_at x (more_nexts n ns) v =
      continued-good c withs x_at (followed c withs x_at x n).value ns (followed-good c withs x_at x n v)

  pub followed-good : (c : Context) (withs : List Place) (x_at : ℕ) (x : Coded) (n : Next) → Valued c.scene x
      → Valued c.scene (followed c withs x_at x n).value
  followed-good c withs x_at x (next op op_at e) v =
      two_coded-valued c op op_at x_at x (expr_at e) (as_value c (expr_at e) (expression c withs e).value).value v
      (as_value-good c (expr_at e) (expression c withs e).value (expression-good c withs e))

  pub elements-good : (c : Context) (withs : List Place) (base : Place) (es : Elements) (ls : Labels) → GoodSet es
      → GoodSet (elements c withs base es ls).value
  elements-good c withs base es no_labels g = g
  elements-good c withs base es (more_labels l ls) g =
      elements-good c withs base (element c withs base es l).value ls (label-good c withs base es l g)

  pub label-good : (c : Context) (withs : List Place) (base : Place) (es : Elements) (l : Label) → GoodSet es
      → GoodSet (element c withs base es l).value
  label-good c withs base es (one_label e) g =
      let v : Coded = (as_value c (expr_at e) (expression c withs e).value).value in
      add_element-good c es (element_coded c base (expr_at e) v).value g
      (element-good c base (expr_at e) v (as_value-good c (expr_at e) (expression c withs e).value (expression-good c withs e)))
  label-good c withs base es (range_label low high) g =
      let v : Coded = (as_value c (expr_at low) (expression c withs low).value).value in
      let w : Coded = (as_value c (expr_at high) (expression c withs high).value).value in
      add_range-good c es (element_coded c base (expr_at low) v).value (element_coded c base (expr_at high) w).value g
      (element-good c base (expr_at low) v (as_value-good c (expr_at low) (expression c withs low).value (expression-good c withs low)))
      (element-good c base (expr_at high) w (as_value-good c (expr_at high) (expression c withs high).value (expression-good c withs high)))

  pub passed-good : (c : Context) (withs : List Place) (ps : List Parameter) (es : Exprs)
      → Passes (cells_of_all c.scene ps) (passed c withs ps es).value
  passed-good c withs [] no_exprs = Moves-none 0
  passed-good c withs (p ∷ ps) no_exprs = tt
  passed-good c withs [] (more_exprs e es) = tt
  passed-good c withs (p ∷ ps) (more_exprs e es) =
      after-all c.scene p ps (argument c p (expr_at e) (expression c withs e).value).value (passed c withs ps es).value
      (argument-good c p (expr_at e) (expression c withs e).value (expression-good c withs e)) (passed-good c withs ps es)

  pub looked-good : (c : Context) (withs : List Place) (es : Exprs) → Good c.scene (looked_at c withs es).value
  looked-good c withs no_exprs = refl
  looked-good c withs (more_exprs e es) = looked-good c withs es

  pub standard-good : (c : Context) (withs : List Place) (f : Builtin) (es : Exprs) → is_function f ≡ true
      → Good c.scene (standard c withs f es).value
  standard-good c withs f no_exprs e = no_argument-good c f e
  standard-good c withs f (more_exprs a no_exprs) e =
      one_argument-good c f (expr_at a) (expression c withs a).value e (expression-good c withs a)
  standard-good c withs f (more_exprs a (more_exprs b others)) e =
      two_arguments-good c f (expr_at a) (first_of_two c f (expr_at a) (expression c withs a).value).value (expr_at b) (expression c withs b).value e
      (expression-good c withs b)

  pub designated-good : (c : Context) (withs : List Place) (d : Designator) → Good c.scene (designated c withs d).value
  designated-good c withs (designator i rest) = selected-good c withs i.at (name_coded c withs i).value rest (name-good c withs i)

  pub selected-good : (c : Context) (withs : List Place) (first : ℕ) (x : Coded) (ss : Selectors) → Good c.scene x
      → Good c.scene (selected c withs first x ss).value
  selected-good c withs first x no_selectors g = g
  selected-good c withs first x (more_selectors s ss) g =
      selected-good c withs first (selector c withs first x s).value ss (selector-good c withs first x s g)

  pub selector-good : (c : Context) (withs : List Place) (first : ℕ) (x : Coded) (s : Selector) → Good c.scene x
      → Good c.scene (selector c withs first x s).value
  selector-good c withs first x (field_selector i at) g = select_field-good c first at i x g
  selector-good c withs first x (index_selector es at) g = indexed-good c withs first at x es g
  selector-good c withs first x (deref_selector at) g = select_target-good c first at x g

  pub indexed-good : (c : Context) (withs : List Place) (first at : ℕ) (x : Coded) (es : Exprs) → Good c.scene x
      → Good c.scene (indexed c withs first at x es).value
  indexed-good c withs first at x no_exprs g = g
  indexed-good c withs first at x (more_exprs e es) g =
      let v : Coded = (as_value c (expr_at e) (expression c withs e).value).value in
      indexed-good c withs first at (select_element c first at (expr_at e) v x).value es
      (select_element-good c first at (expr_at e) v x (as_value-good c (expr_at e) (expression c withs e).value (expression-good c withs e)) g)

-- The code of an expression where a value is wanted: from any height it leaves one operand more, and it never takes what was
-- there before.
pub law : (c : Context) (withs : List Place) (e : Expr) → is_bad (value c withs e).value.operand ≡ false
    → Moves 0 (value_code c (value c withs e).value) 1
law c withs e b =
    value-moves c (value c withs e).value (as_value-good c (expr_at e) (expression c withs e).value (expression-good c withs e)) b

addressed_by : (scene : Scene) (o : Operand) (code high : Part) → GoodAs scene code high o → IsAddressedBy code high o
addressed_by scene (Variable t) code high g = g
addressed_by scene o code high g = tt

-- the code of a designator, where that is a variable, leaves its address
pub variable-law : (c : Context) (withs : List Place) (d : Designator) → IsAddressed (designated c withs d).value
variable-law c withs d =
    let x : Coded = (designated c withs d).value in
    addressed_by c.scene x.operand x.code x.high (designated-good c withs d)

known_by : (scene : Scene) (o : Operand) (code high : Part) → GoodAs scene code high o → o ≡ NotConstant → ⊥
known_by scene NotConstant code high g e = g
known_by scene o code high g e = absurd cc

-- what an expression stands for isn't left open
pub expression-known : (c : Context) (withs : List Place) (e : Expr) → (expression c withs e).value.operand ≡ NotConstant → ⊥
expression-known c withs e =
    let x : Coded = (expression c withs e).value in
    known_by c.scene x.operand x.code x.high (expression-good c withs e)

-- what a designator stands for isn't left open
pub designator-known : (c : Context) (withs : List Place) (d : Designator) → (designated c withs d).value.operand ≡ NotConstant → ⊥
designator-known c withs d =
    let x : Coded = (designated c withs d).value in
    known_by c.scene x.operand x.code x.high (designated-good c withs d)

clean_by : (scene : Scene) (o : Operand) (code high : Part) → GoodAs scene code high o → o ≡ InError → code ≡ none
clean_by scene InError code high g e = g
clean_by scene o code high g e = absurd cc

-- an expression in error has no code
pub expression-clean : (c : Context) (withs : List Place) (e : Expr) → (expression c withs e).value.operand ≡ InError
    → (expression c withs e).value.code ≡ none
expression-clean c withs e =
    let x : Coded = (expression c withs e).value in
    clean_by c.scene x.operand x.code x.high (expression-good c withs e)

-- nor where a value is wanted
pub value-clean : (c : Context) (withs : List Place) (e : Expr) → (value c withs e).value.operand ≡ InError → (value c withs e).value.code ≡ none
value-clean c withs e =
    let x : Coded = (value c withs e).value in
    let v : Valued c.scene x = as_value-good c (expr_at e) (expression c withs e).value (expression-good c withs e) in
    clean_by c.scene x.operand x.code x.high v.0

-- nor has a designator in error
pub designator-clean : (c : Context) (withs : List Place) (d : Designator) → (designated c withs d).value.operand ≡ InError
    → (designated c withs d).value.code ≡ none
designator-clean c withs d =
    let x : Coded = (designated c withs d).value in
    clean_by c.scene x.operand x.code x.high (designated-good c withs d)
