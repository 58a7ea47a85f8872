-- In a sound context a constant expression stands for what is right.
use Rattle.std.specs.Prelude.{ℕ, List, [], ◌∷◌, pos, Option, Some, None}
use Rattle.std.proofs.Common.{arith}
use Rattle.m2_base.specs.Lists.{Each, WhereKept}
use Rattle.m2_base.specs.Rows.{Place}
use Rattle.m2_base.specs.Standard.{bitset}
use Rattle.m2_base.specs.Trees.{Ident, Expr, expr, ExprForm, number_form, char_form, string_form, set_form, typed_set_form, name_form, call_form, one_form, many_form, Exprs, no_exprs, more_exprs, Next, next, Nexts, no_nexts, more_nexts, Designator, designator, designator_at, Selector, field_selector, index_selector, deref_selector, Selectors, no_selectors, more_selectors, Label, one_label, range_label, Labels, no_labels, more_labels, expr_at}
use Rattle.m2_base.specs.Statics.Builtins.{builtin_of}
use Rattle.m2_base.specs.Statics.Constants.{in_constant, value_wanted, selected, spoilt_by, name_operand, field_operand, Argument, no_constant, builtin_call, call_of, operand_in, form_in, many_in, next_in, elements_in, element_in, designator_in, selectors_in, selector_in, indices_in, arguments_in, constant_or_refused, constant_of}
use Rattle.m2_base.specs.Statics.Contexts.{Context, Scene}
use Rattle.m2_base.specs.Statics.Sets.{set_type_of, set_base, no_elements}
use Rattle.m2_base.specs.Statics.SoundTrees.{IsSoundExpr, IsSoundForm, AreSoundExprs}
use Rattle.m2_base.specs.Statics.Uses.{use_of}
use Rattle.m2_base.specs.declared.builtins.Builtin.{Builtin}
use Rattle.m2_base.specs.declared.builtins.Builtin.TheVariants.{Abs, Cap, Chr, Dec, Dispose, Excl, Halt, High, Inc, Incl, Max, Min, New, Odd, Ord, Size, Val}
use Rattle.m2_base.specs.declared.operands.Operand.{Operand}
use Rattle.m2_base.specs.declared.operands.Operand.TheVariants.{Constant, StringConstant, Variable, NamedType, Procedure, StandardProcedure, ModuleName, InError}
use Rattle.m2_base.proofs.SoundFunctions.{abs_ok, cap_ok, chr_ok, odd_ok, ord_ok, val_ok, min_ok, max_ok, size_ok}
use Rattle.m2_base.proofs.SoundOperands.{OperandOk, natural-value, use_operand_ok}
use Rattle.m2_base.proofs.SoundOperations.{SoundContext, GivesOk, standard_constant, operate_ok, apply_ok, set_type_there, with_elements_ok, no_elements_ok}
use Rattle.m2_base.proofs.SoundTypes.{standard-there, use_ok}

module _ (names : ℕ) where
  -- ** Operands in constants

  in_constant_ok : (scene : Scene) (o : Operand) → OperandOk names scene o → OperandOk names scene (in_constant o)
  in_constant_ok scene (Variable t) h = tt
  in_constant_ok scene o h = h

  wanted_ok : (c : Context) (at : ℕ) (o : Operand) → OperandOk names c.scene o → GivesOk names c (value_wanted c at o)
  wanted_ok c at (NamedType t) h = tt
  wanted_ok c at (ModuleName s) h = tt
  wanted_ok c at (StandardProcedure n) h = tt
  wanted_ok c at (Procedure n t k s) h = tt
  wanted_ok c at o h = h

  selected_ok : (c : Context) (at : ℕ) (o : Operand) → GivesOk names c (selected c at o)
  selected_ok c at (NamedType t) = tt
  selected_ok c at (ModuleName s) = tt
  selected_ok c at InError = tt
  selected_ok c at o = tt

  spoilt_ok : (scene : Scene) (part o : Operand) → OperandOk names scene o → OperandOk names scene (spoilt_by part o)
  spoilt_ok scene InError o h = tt
  spoilt_ok scene part o h = h

  name_ok : (c : Context) → SoundContext names c → (within : Option ℕ) (i : Ident) → GivesOk names c (name_operand c within i)
  name_ok c sound within i =
      in_constant_ok c.scene _ (use_operand_ok names c.scene (use_of c within i.name i.at).value (use_ok c sound.scene within i.name i.at))

  field_ok : (c : Context) → SoundContext names c → (at : ℕ) (o : Operand) (i : Ident) → GivesOk names c (field_operand c at o i)
  field_ok c sound at (ModuleName s) i = name_ok c sound (Some s) i
  field_ok c sound at o i = selected_ok c at o

  -- ** Designators

  indices_ok : (es : Exprs) (c : Context) (at : ℕ) (o : Operand) → OperandOk names c.scene o → GivesOk names c (indices_in c at o es)
  indices_ok no_exprs c at o h = h
  indices_ok (more_exprs e es) c at o h =
      let v = (value_wanted c (expr_at e) (operand_in c e).value).value in
      let p = (selected c at o).value in
      indices_ok es c at (spoilt_by v p) (spoilt_ok c.scene v p (selected_ok c at o))

  selector_ok : (s : Selector) (c : Context) → SoundContext names c → (at : ℕ) (o : Operand) → OperandOk names c.scene o → GivesOk names c (selector_in c at o s)
  selector_ok (field_selector i dot) c sound at o h = field_ok c sound at o i
  selector_ok (index_selector es bracket) c sound at o h = indices_ok es c at o h
  selector_ok (deref_selector caret) c sound at o h = selected_ok c at o

  selectors_ok : (ss : Selectors) (c : Context) → SoundContext names c → (at : ℕ) (o : Operand) → OperandOk names c.scene o → GivesOk names c (selectors_in c at o ss)
  selectors_ok no_selectors c sound at o h = h
  selectors_ok (more_selectors s ss) c sound at o h = selectors_ok ss c sound at (selector_in c at o s).value (selector_ok s c sound at o h)

  designator_ok : (d : Designator) (c : Context) → SoundContext names c → GivesOk names c (designator_in c d)
  designator_ok (designator first rest) c sound = selectors_ok rest c sound first.at (name_operand c None first).value (name_ok c sound None first)

  -- ** Calls

  abbrev ArgsOk : Scene → List Argument → Type 0
  ArgsOk scene args = Each (λ a. OperandOk names scene a.operand) args

  no_constant_ok : (scene : Scene) (args : List Argument) → OperandOk names scene (no_constant args)
  no_constant_ok scene [] = tt
  no_constant_ok scene (a ∷ args) = spoilt_ok scene a.operand (no_constant args) (no_constant_ok scene args)

  builtin_ok : (c : Context) → SoundContext names c → (at : ℕ) (b : Builtin) (args : List Argument) → ArgsOk c.scene args → GivesOk names c (builtin_call c at b args)
  builtin_ok c sound at Abs (a ∷ []) h = abs_ok names c sound.scene a.at _ (wanted_ok c a.at a.operand h.0)
  builtin_ok c sound at Cap (a ∷ []) h = cap_ok names c sound a.at _ (wanted_ok c a.at a.operand h.0)
  builtin_ok c sound at Chr (a ∷ []) h = chr_ok names c sound.scene a.at _ (wanted_ok c a.at a.operand h.0)
  builtin_ok c sound at Odd (a ∷ []) h = odd_ok names c sound.scene a.at (value_wanted c a.at a.operand).value
  builtin_ok c sound at Ord (a ∷ []) h = ord_ok names c sound a.at _ (wanted_ok c a.at a.operand h.0)
  builtin_ok c sound at Val (t ∷ a ∷ []) h = val_ok names c sound t.at t.operand a.at _ h.0 (wanted_ok c a.at a.operand h.1.0)
  builtin_ok c sound at Min (a ∷ []) h = min_ok names c sound.scene a.at a.operand h.0
  builtin_ok c sound at Max (a ∷ []) h = max_ok names c sound.scene a.at a.operand h.0
  builtin_ok c sound at Size (a ∷ []) h = size_ok names c sound.scene a.at a.operand h.0
  builtin_ok c sound at Dec args h = no_constant_ok c.scene args
  builtin_ok c sound at Dispose args h = no_constant_ok c.scene args
  builtin_ok c sound at Excl args h = no_constant_ok c.scene args
  builtin_ok c sound at Halt args h = no_constant_ok c.scene args
  builtin_ok c sound at High args h = no_constant_ok c.scene args
  builtin_ok c sound at Inc args h = no_constant_ok c.scene args
  builtin_ok c sound at Incl args h = no_constant_ok c.scene args
  builtin_ok c sound at New args h = no_constant_ok c.scene args
  builtin_ok c sound at b args h = tt

  call_ok : (c : Context) → SoundContext names c → (at : ℕ) (o : Operand) (args : List Argument) → ArgsOk c.scene args → GivesOk names c (call_of c at o args)
  call_ok c sound at (StandardProcedure n) args h = builtin_ok c sound at (builtin_of n) args h
  call_ok c sound at (ModuleName s) args h = tt
  call_ok c sound at InError args h = tt
  call_ok c sound at o args h = no_constant_ok c.scene args

  -- ** Expressions

  mutual
    pub expression_ok : (e : Expr) (c : Context) → SoundContext names c → IsSoundExpr names e → GivesOk names c (operand_in c e)
    expression_ok (expr at form) c sound h = form_ok form c sound at h

    form_ok : (form : ExprForm) (c : Context) → SoundContext names c → (at : ℕ) → IsSoundForm names form → GivesOk names c (form_in c at form)
    form_ok (number_form n) c sound at h = standard_constant sound.scene 9 (pos n) (omega arith) (λ e. omega (arith, e)) (natural-value n h)
    form_ok (char_form n) c sound at h = standard_constant sound.scene 2 (pos n) (omega arith) (λ e. omega (arith, e)) (natural-value n (omega (arith, h)))
    form_ok (string_form n) c sound at h = (h, sound.source.short n)
    form_ok (set_form items) c sound at h =
        elements_ok items c (set_base c bitset) (no_elements c bitset) (no_elements_ok names c sound.scene bitset (standard-there sound.scene 5 (omega arith)))
    form_ok (typed_set_form d items) c sound at h =
        let o = (designator_in c d).value in
        let t = (set_type_of c (designator_at d) o).value in
        elements_ok items c (set_base c t) (no_elements c t)
        (no_elements_ok names c sound.scene t (set_type_there names c sound.scene (designator_at d) o (designator_ok d c sound)))
    form_ok (name_form d) c sound at h = designator_ok d c sound
    form_ok (call_form d args) c sound at h =
        call_ok c sound (designator_at d) (designator_in c d).value (arguments_in c args).value (arguments_ok args c sound h)
    form_ok (one_form op op_at e) c sound at h =
        apply_ok names c sound.scene op op_at _ (wanted_ok c (expr_at e) (operand_in c e).value (expression_ok e c sound h))
    form_ok (many_form first rest) c sound at h =
        many_ok rest c sound at _ (wanted_ok c (expr_at first) (operand_in c first).value (expression_ok first c sound h.0))

    many_ok : (ns : Nexts) (c : Context) → SoundContext names c → (at : ℕ) (x : Operand) → OperandOk names c.scene x → GivesOk names c (many_in c at x ns)
    many_ok no_nexts c sound at x h = h
    many_ok (more_nexts n ns) c sound at x h = many_ok ns c sound at (next_in c at x n).value (next_ok n c sound at x h)

    next_ok : (n : Next) (c : Context) → SoundContext names c → (at : ℕ) (x : Operand) → OperandOk names c.scene x → GivesOk names c (next_in c at x n)
    next_ok (next op op_at right) c sound at x h =
        operate_ok names c sound.scene op op_at x at (value_wanted c (expr_at right) (operand_in c right).value).value (expr_at right) h

    elements_ok : (ls : Labels) (c : Context) (base : Place) (bits : Operand) → OperandOk names c.scene bits → GivesOk names c (elements_in c base bits ls)
    elements_ok no_labels c base bits h = h
    elements_ok (more_labels l ls) c base bits h = elements_ok ls c base (element_in c base bits l).value (label_ok l c base bits h)

    label_ok : (l : Label) (c : Context) (base : Place) (bits : Operand) → OperandOk names c.scene bits → GivesOk names c (element_in c base bits l)
    label_ok (one_label e) c base bits h = with_elements_ok names c.scene bits _ _ h
    label_ok (range_label low high) c base bits h = with_elements_ok names c.scene bits _ _ h

    arguments_ok : (es : Exprs) (c : Context) → SoundContext names c → AreSoundExprs names es → ArgsOk c.scene (arguments_in c es).value
    arguments_ok no_exprs c sound h = tt
    arguments_ok (more_exprs e es) c sound h = (expression_ok e c sound h.0, arguments_ok es c sound h.1)

  -- a constant is none that isn't right
  constant_ok_by : (c : Context) (at : ℕ) (o : Operand) → OperandOk names c.scene o → WhereKept (constant_or_refused c at o).value (OperandOk names c.scene)
  constant_ok_by c at (Constant t v) h = h
  constant_ok_by c at (StringConstant n l) h = h
  constant_ok_by c at InError h = tt
  constant_ok_by c at o h = tt

  pub constant_ok : (e : Expr) (c : Context) → SoundContext names c → IsSoundExpr names e → WhereKept (constant_of c e).value (OperandOk names c.scene)
  constant_ok e c sound h = constant_ok_by c (expr_at e) _ (wanted_ok c (expr_at e) (operand_in c e).value (expression_ok e c sound h))
