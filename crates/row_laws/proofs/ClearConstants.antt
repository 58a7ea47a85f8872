-- What constant expressions stand for in a clear scene, where they have no diagnostic.
use Rattle.std.specs.Prelude.{◌≡◌, ◌≢◌, ℕ, false, ◌||◌, if◌then◌else◌, List, [], ◌∷◌, Option, Some, None}
use Rattle.std.proofs.Common.{refl, subst, sym}
use Rattle.m2_base.specs.Lists.{Each}
use Rattle.m2_base.specs.Rows.{is_same_place, natural, row_meaning}
use Rattle.m2_base.specs.declared.rows.Place.{Place}
use Rattle.m2_base.specs.declared.rows.RowMeaning.{RowMeaning}
use Rattle.m2_base.specs.declared.rows.RowMeaning.TheVariants.{Const, Module, OpenArray, Proc, Standard, TypeName, Var}
use Rattle.m2_base.specs.declared.trees.Ident.{Ident}
use Rattle.m2_base.specs.Standard.{bitset, text_type}
use Rattle.m2_base.specs.Trees.{Designator, Expr, ExprForm, Exprs, Label, Labels, Next, Nexts, Selector, Selectors, call_form, char_form, deref_selector, designator, designator_at, expr, expr_at, field_selector, index_selector, many_form, more_exprs, more_labels, more_nexts, more_selectors, name_form, next, no_exprs, no_labels, no_nexts, no_selectors, number_form, one_form, one_label, range_label, set_form, string_form, typed_set_form}
use Rattle.m2_base.specs.Statics.Builtins.{builtin_of}
use Rattle.m2_base.specs.Statics.Constants.{Argument, arguments_in, builtin_call, call_of, constant_of, constant_or_refused, designator_in, element_in, elements_in, field_operand, form_in, in_constant, indices_in, many_in, name_operand, next_in, no_constant, operand_in, selected, selector_in, selectors_in, spoilt_by, value_wanted}
use Rattle.m2_base.specs.Statics.Contexts.{Context}
use Rattle.m2_base.specs.Statics.Lookup.{Entry}
use Rattle.m2_base.specs.Statics.NamedOperands.{is_in_error, is_open_of_broken, operand_by, operand_of_use}
use Rattle.m2_base.specs.Statics.ReadTrees.{AreReadExprs, AreReadLabels, AreReadNexts, AreReadSelectors, IsReadDesignator, IsReadExpr, IsReadForm, IsReadLabel, IsReadNext, IsReadSelector}
use Rattle.m2_base.specs.Statics.Sets.{element_of, no_elements, set_base, set_type_of}
use Rattle.m2_base.specs.Statics.Types.{is_broken, kind_of, stands_for}
use Rattle.m2_base.specs.Statics.Uses.{use_of}
use Rattle.m2_base.specs.declared.builtins.Builtin.{Builtin}
use Rattle.m2_base.specs.declared.builtins.Builtin.TheVariants.{Abs, Cap, Chr, Dec, Dispose, Excl, Halt, High, Inc, Incl, Max, Min, New, Odd, Ord, Size, Val}
use Rattle.m2_base.specs.declared.operands.Operand.{Operand}
use Rattle.m2_base.specs.declared.operands.Operand.TheVariants.{Constant, InError, ModuleName, NamedType, Procedure, StandardProcedure, StringConstant, Variable}
use Rattle.m2_base.proofs.SoundTypes.{either}
use Rattle.row_laws.specs.Clear.{HasClear, IsClear, IsTarget}
use Rattle.row_laws.proofs.ClearRows.{HaveClear, IsClearScene, have_clear, not_broken, place_clear}
use Rattle.row_laws.proofs.Choices.{where_false}
use Rattle.row_laws.proofs.ClearNotes.{GivesFine, IsEntry, given, join, refused, use_fine}
use Rattle.row_laws.proofs.ClearOperations.{IsGood, abs_fine, apply_fine, bitset_fine, cap_fine, chr_fine, element_fine, elements_good, max_fine, min_fine, no_elements_good, odd_fine, operate_fine, ord_fine, set_type_fine, size_fine, val_fine}

-- ** Operands

spoilt_good : (part o : Operand) → IsGood part → IsGood o → IsGood (spoilt_by part o)
spoilt_good InError o h k = absurd h
spoilt_good part o h k = k

-- the operands of arguments
abbrev AreGood : List Argument → Type 0
AreGood args = Each (λ a. IsGood a.operand) args

none_good : (args : List Argument) → AreGood args → IsGood (no_constant args)
none_good [] h = tt
none_good (a ∷ args) h = spoilt_good a.operand (no_constant args) h.0 (none_good args h.1)

-- a constant
abbrev pub IsConstant : Option Operand → Type 0
IsConstant None = ⊥
IsConstant (Some (Constant t v)) = IsClear t
IsConstant (Some (StringConstant n l)) = Unit {0}
IsConstant (Some other) = ⊥

module _ (c : Context) (clear : IsClearScene c.scene) where
  types : HaveClear c.scene.tables
  types = have_clear c.scene.tables clear.rows

  open_fine : (m : RowMeaning) → HasClear m → is_open_of_broken c.scene m ≡ false
  open_fine (OpenArray t) h = not_broken c.scene types t h
  open_fine m h = refl

  variable_good : (t : Place) → IsClear t → IsGood (in_constant (if is_in_error c.scene t then InError else Variable t))
  variable_good t h =
      where_false (λ o. IsGood (in_constant o)) (is_in_error c.scene t) InError (Variable t)
      (subst (λ b. (b || is_open_of_broken c.scene (kind_of c.scene t)) ≡ false) (sym (not_broken c.scene types t h)) (open_fine (kind_of c.scene t) (place_clear c.scene.tables types (stands_for c.scene t)))) tt

  operand_good : (name : ℕ) (m : RowMeaning) → HasClear m → IsTarget m → IsGood (in_constant (operand_by c.scene name m))
  operand_good name (Const t v l) h k =
      where_false (λ o. IsGood (in_constant o)) (is_broken c.scene t) InError _ (not_broken c.scene types t h)
      (either (λ o. IsGood (in_constant o)) (is_same_place t text_type) (StringConstant (natural v) l) (Constant t v) tt h)
  operand_good name (TypeName t) h k = where_false (λ o. IsGood (in_constant o)) (is_broken c.scene t) InError (NamedType t) (not_broken c.scene types t h) h
  operand_good name (Var t mode o) h k = variable_good t h
  operand_good name (Proc t n s) h k = tt
  operand_good name (Module s) h k = tt
  operand_good name (Standard n) h k = tt
  operand_good name m h k = absurd k

  use_good : (o : Option Entry) → IsEntry c.scene.tables o → IsGood (in_constant (operand_of_use c.scene o))
  use_good None h = absurd h
  use_good (Some e) h = operand_good e.1.name (row_meaning e.1) h.clear h.target

  wanted_fine : (at : ℕ) (o : Operand) → IsGood o → GivesFine IsGood (value_wanted c at o)
  wanted_fine at (NamedType t) h = refused
  wanted_fine at (ModuleName s) h = refused
  wanted_fine at (StandardProcedure n) h = given tt
  wanted_fine at (Procedure n t k s) h = given tt
  wanted_fine at o h = given h

  selected_fine : (at : ℕ) (o : Operand) → IsGood o → GivesFine IsGood (selected c at o)
  selected_fine at (NamedType t) h = refused
  selected_fine at (ModuleName s) h = refused
  selected_fine at InError h = absurd h
  selected_fine at o h = given tt

  name_fine : (within : Option ℕ) (i : Ident) → i.name ≢ 0 → GivesFine IsGood (name_operand c within i)
  name_fine within i some = join (use_fine c clear within i.name i.at some) (λ h. given (use_good (use_of c within i.name i.at).value h))

  field_fine : (at : ℕ) (o : Operand) (i : Ident) → i.name ≢ 0 → IsGood o → GivesFine IsGood (field_operand c at o i)
  field_fine at (ModuleName s) i some h = name_fine (Some s) i some
  field_fine at o i some h = selected_fine at o h

  -- ** Calls

  argument_fine : (a : Argument) → IsGood a.operand → GivesFine IsGood (value_wanted c a.at a.operand)
  argument_fine a h = wanted_fine a.at a.operand h

  builtin_fine : (at : ℕ) (b : Builtin) (args : List Argument) → AreGood args → GivesFine IsGood (builtin_call c at b args)
  builtin_fine at Abs (a ∷ []) h = join (argument_fine a h.0) (λ k. abs_fine c clear a.at (value_wanted c a.at a.operand).value k)
  builtin_fine at Cap (a ∷ []) h = join (argument_fine a h.0) (λ k. cap_fine c clear a.at (value_wanted c a.at a.operand).value k)
  builtin_fine at Chr (a ∷ []) h = join (argument_fine a h.0) (λ k. chr_fine c clear a.at (value_wanted c a.at a.operand).value k)
  builtin_fine at Odd (a ∷ []) h = join (argument_fine a h.0) (λ k. odd_fine c clear a.at (value_wanted c a.at a.operand).value k)
  builtin_fine at Ord (a ∷ []) h = join (argument_fine a h.0) (λ k. ord_fine c clear a.at (value_wanted c a.at a.operand).value k)
  builtin_fine at Val (t ∷ a ∷ []) h = join (argument_fine a h.1.0) (λ k. val_fine c clear t.at t.operand a.at (value_wanted c a.at a.operand).value h.0 k)
  builtin_fine at Min (a ∷ []) h = min_fine c clear a.at a.operand h.0
  builtin_fine at Max (a ∷ []) h = max_fine c clear a.at a.operand h.0
  builtin_fine at Size (a ∷ []) h = size_fine c clear a.at a.operand h.0
  builtin_fine at Dec args h = given (none_good args h)
  builtin_fine at Dispose args h = given (none_good args h)
  builtin_fine at Excl args h = given (none_good args h)
  builtin_fine at Halt args h = given (none_good args h)
  builtin_fine at High args h = given (none_good args h)
  builtin_fine at Inc args h = given (none_good args h)
  builtin_fine at Incl args h = given (none_good args h)
  builtin_fine at New args h = given (none_good args h)
  builtin_fine at b args h = refused

  call_fine : (at : ℕ) (o : Operand) (args : List Argument) → IsGood o → AreGood args → GivesFine IsGood (call_of c at o args)
  call_fine at (StandardProcedure n) args h k = builtin_fine at (builtin_of n) args k
  call_fine at (ModuleName s) args h k = refused
  call_fine at InError args h k = absurd h
  call_fine at o args h k = given (none_good args k)

  module _ (names : List (List ℕ)) where
    -- ** Expressions

    -- an expression where a value is wanted
    value_fine : (e : Expr) → IsGood (operand_in c e).value → GivesFine IsGood (value_wanted c (expr_at e) (operand_in c e).value)
    value_fine e h = wanted_fine (expr_at e) (operand_in c e).value h

    -- an expression as an element
    element_value : (e : Expr) (base : Place) → IsClear base → IsGood (value_wanted c (expr_at e) (operand_in c e).value).value
        → GivesFine IsGood (element_of c base (expr_at e) (value_wanted c (expr_at e) (operand_in c e).value).value)
    element_value e base b h = element_fine c clear base (expr_at e) (value_wanted c (expr_at e) (operand_in c e).value).value b h

    mutual
      operand_fine : (e : Expr) → IsReadExpr names e → GivesFine IsGood (operand_in c e)
      operand_fine (expr at form) h = form_fine form at h

      form_fine : (form : ExprForm) (at : ℕ) → IsReadForm names form → GivesFine IsGood (form_in c at form)
      form_fine (number_form n) at h = given refl
      form_fine (char_form n) at h = given refl
      form_fine (string_form n) at h = given tt
      form_fine (set_form items) at h =
          let t = bitset_fine c clear in
          elements_fine items (set_base c bitset) (no_elements c bitset) h t.1 (no_elements_good c clear bitset t)
      form_fine (typed_set_form d items) at h =
          let o = (designator_in c d).value in
          let t = (set_type_of c (designator_at d) o).value in
          join (designators_fine d h.0)
          (λ k. join (set_type_fine c clear (designator_at d) o k) (λ s. elements_fine items (set_base c t) (no_elements c t) h.1 s.1 (no_elements_good c clear t s)))
      form_fine (name_form d) at h = designators_fine d h
      form_fine (call_form d args) at h =
          join (designators_fine d h.0)
          (λ k. join (arguments_fine args h.1) (λ all. call_fine (designator_at d) (designator_in c d).value (arguments_in c args).value k all))
      form_fine (one_form op op_at e) at h =
          join (operand_fine e h) (λ k. join (value_fine e k) (λ v. apply_fine c clear op op_at (value_wanted c (expr_at e) (operand_in c e).value).value v))
      form_fine (many_form first rest) at h =
          join (operand_fine first h.0)
          (λ k. join (value_fine first k) (λ v. many_fine rest at (value_wanted c (expr_at first) (operand_in c first).value).value h.1 v))

      many_fine : (ns : Nexts) (at : ℕ) (x : Operand) → AreReadNexts names ns → IsGood x → GivesFine IsGood (many_in c at x ns)
      many_fine no_nexts at x h k = given k
      many_fine (more_nexts n ns) at x h k = join (next_fine n at x h.0 k) (λ v. many_fine ns at (next_in c at x n).value h.1 v)

      next_fine : (n : Next) (at : ℕ) (x : Operand) → IsReadNext names n → IsGood x → GivesFine IsGood (next_in c at x n)
      next_fine (next op op_at right) at x h k =
          let y = (value_wanted c (expr_at right) (operand_in c right).value).value in
          join (operand_fine right h) (λ o. join (value_fine right o) (λ v. operate_fine c clear op op_at x at y (expr_at right) k v))

      elements_fine : (ls : Labels) (base : Place) (bits : Operand) → AreReadLabels names ls → IsClear base → IsGood bits → GivesFine IsGood (elements_in c base bits ls)
      elements_fine no_labels base bits h b k = given k
      elements_fine (more_labels l ls) base bits h b k = join (label_fine l base bits h.0 b k) (λ v. elements_fine ls base (element_in c base bits l).value h.1 b v)

      label_fine : (l : Label) (base : Place) (bits : Operand) → IsReadLabel names l → IsClear base → IsGood bits → GivesFine IsGood (element_in c base bits l)
      label_fine (one_label e) base bits h b k =
          let x = (element_of c base (expr_at e) (value_wanted c (expr_at e) (operand_in c e).value).value).value in
          join (operand_fine e h) (λ o. join (value_fine e o) (λ v. join (element_value e base b v) (λ g. given (elements_good bits x x k g g))))
      label_fine (range_label low high) base bits h b k =
          let x = (element_of c base (expr_at low) (value_wanted c (expr_at low) (operand_in c low).value).value).value in
          let y = (element_of c base (expr_at high) (value_wanted c (expr_at high) (operand_in c high).value).value).value in
          join (operand_fine low h.0) (λ o. join (value_fine low o) (λ v. join (element_value low base b v)
          (λ g. join (operand_fine high h.1) (λ p. join (value_fine high p) (λ w. join (element_value high base b w) (λ f. given (elements_good bits x y k g f)))))))

      designators_fine : (d : Designator) → IsReadDesignator names d → GivesFine IsGood (designator_in c d)
      designators_fine (designator first rest) h = join (name_fine None first h.0) (λ k. selectors_fine rest first.at (name_operand c None first).value h.1 k)

      selectors_fine : (ss : Selectors) (at : ℕ) (o : Operand) → AreReadSelectors names ss → IsGood o → GivesFine IsGood (selectors_in c at o ss)
      selectors_fine no_selectors at o h k = given k
      selectors_fine (more_selectors s ss) at o h k = join (selector_fine s at o h.0 k) (λ v. selectors_fine ss at (selector_in c at o s).value h.1 v)

      selector_fine : (s : Selector) (at : ℕ) (o : Operand) → IsReadSelector names s → IsGood o → GivesFine IsGood (selector_in c at o s)
      selector_fine (field_selector i dot) at o h k = field_fine at o i h k
      selector_fine (index_selector es bracket) at o h k = indices_fine es at o h k
      selector_fine (deref_selector caret) at o h k = selected_fine at o k

      indices_fine : (es : Exprs) (at : ℕ) (o : Operand) → AreReadExprs names es → IsGood o → GivesFine IsGood (indices_in c at o es)
      indices_fine no_exprs at o h k = given k
      indices_fine (more_exprs e es) at o h k =
          let v = (value_wanted c (expr_at e) (operand_in c e).value).value in
          let p = (selected c at o).value in
          join (operand_fine e h.0) (λ g. join (value_fine e g) (λ w. join (selected_fine at o k) (λ s. indices_fine es at (spoilt_by v p) h.1 (spoilt_good v p w s))))

      arguments_fine : (es : Exprs) → AreReadExprs names es → GivesFine AreGood (arguments_in c es)
      arguments_fine no_exprs h = given tt
      arguments_fine (more_exprs e es) h = join (operand_fine e h.0) (λ k. join (arguments_fine es h.1) (λ ks. given (k, ks)))

    constant_or_fine : (at : ℕ) (o : Operand) → IsGood o → GivesFine IsConstant (constant_or_refused c at o)
    constant_or_fine at (Constant t v) h = given h
    constant_or_fine at (StringConstant n l) h = given tt
    constant_or_fine at InError h = absurd h
    constant_or_fine at o h = refused

    pub constant_fine : (e : Expr) → IsReadExpr names e → GivesFine IsConstant (constant_of c e)
    constant_fine e h = join (operand_fine e h) (λ k. join (value_fine e k) (λ v. constant_or_fine (expr_at e) (value_wanted c (expr_at e) (operand_in c e).value).value v))
