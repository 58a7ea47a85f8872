-- The diagnostics of constant expressions stand at their tokens.
use Rattle.std.specs.Prelude.{ℕ, List, [], ◌∷◌, Option, Some, None}
use Rattle.m2_base.specs.Lists.{Each}
use Rattle.m2_base.specs.Rows.{Place}
use Rattle.m2_base.specs.Standard.{bitset}
use Rattle.m2_base.specs.Trees.{Ident, Expr, expr, ExprForm, number_form, char_form, string_form, set_form, typed_set_form, name_form, call_form, one_form, many_form, Exprs, no_exprs, more_exprs, Next, next, Nexts, no_nexts, more_nexts, Designator, designator, designator_at, Selector, field_selector, index_selector, deref_selector, Selectors, no_selectors, more_selectors, Label, one_label, range_label, Labels, no_labels, more_labels, expr_at}
use Rattle.m2_base.specs.Statics.Builtins.{builtin_of}
use Rattle.m2_base.specs.Statics.Constants.{value_wanted, selected, spoilt_by, name_operand, field_operand, Argument, builtin_call, call_of, operand_in, form_in, many_in, next_in, elements_in, element_in, designator_in, selectors_in, selector_in, indices_in, arguments_in, constant_or_refused, constant_of}
use Rattle.m2_base.specs.Statics.Contexts.{Context}
use Rattle.m2_base.specs.Statics.Sets.{element_of, set_type_of, set_base, no_elements}
use Rattle.m2_base.specs.Statics.Leaves.{DesignatorHas, ExprHas, ExprsHave, FormHas, LabelHas, LabelsHave, NextHas, NextsHave, SelectorHas, SelectorsHave}
use Rattle.m2_base.specs.Statics.StandingTrees.{Stands}
use Rattle.m2_base.specs.declared.builtins.Builtin.{Builtin}
use Rattle.m2_base.specs.declared.builtins.Builtin.TheVariants.{Abs, Cap, Chr, Dec, Dispose, Excl, Halt, High, Inc, Incl, Max, Min, New, Odd, Ord, Size, Val}
use Rattle.m2_base.specs.declared.operands.Operand.{Operand}
use Rattle.m2_base.specs.declared.operands.Operand.TheVariants.{Constant, StringConstant, NamedType, Procedure, StandardProcedure, ModuleName, InError}
use Rattle.m2_base.proofs.StandingNotes.{GivesAt, join, none, one, use_at}
use Rattle.m2_base.proofs.StandingOperations.{operate_at, apply_at, abs_at, cap_at, chr_at, odd_at, ord_at, val_at, min_at, max_at, size_at, set_type_at, element_at}

module _ (Here : ℕ → Type 0) where
  -- ** Operands in constants

  pub first_token : (e : Expr) → ExprHas (Stands Here) e → Here (expr_at e)
  first_token (expr at form) h = h.0

  pub first_stand : (d : Designator) → DesignatorHas (Stands Here) d → Here (designator_at d)
  first_stand (designator first rest) h = h.0

  wanted_at : (c : Context) (at : ℕ) (o : Operand) → Here at → GivesAt Here c (value_wanted c at o)
  wanted_at c at (NamedType t) h = one h
  wanted_at c at (ModuleName s) h = one h
  wanted_at c at (StandardProcedure k) h = none
  wanted_at c at (Procedure k t m s) h = none
  wanted_at c at o h = none

  selected_at : (c : Context) (at : ℕ) (o : Operand) → Here at → GivesAt Here c (selected c at o)
  selected_at c at (NamedType t) h = one h
  selected_at c at (ModuleName s) h = one h
  selected_at c at InError h = none
  selected_at c at o h = none

  name_at : (c : Context) (within : Option ℕ) (i : Ident) → Here i.at → GivesAt Here c (name_operand c within i)
  name_at c within i h = join (use_at Here c within i.name i.at h) none

  field_at : (c : Context) (at : ℕ) (o : Operand) (i : Ident) → Here at → Here i.at → GivesAt Here c (field_operand c at o i)
  field_at c at (ModuleName s) i h k = name_at c (Some s) i k
  field_at c at o i h k = selected_at c at o h

  -- ** Calls

  -- the first tokens of arguments
  abbrev ArgsAt : List Argument → Type 0
  ArgsAt args = Each (λ a. Here a.at) args

  argument_at : (c : Context) (a : Argument) → Here a.at → GivesAt Here c (value_wanted c a.at a.operand)
  argument_at c a h = wanted_at c a.at a.operand h

  builtin_at : (c : Context) (at : ℕ) (b : Builtin) (args : List Argument) → Here at → ArgsAt args → GivesAt Here c (builtin_call c at b args)
  builtin_at c at Abs (a ∷ []) k h = join (argument_at c a h.0) (abs_at Here c a.at (value_wanted c a.at a.operand).value h.0)
  builtin_at c at Cap (a ∷ []) k h = join (argument_at c a h.0) (cap_at Here c a.at (value_wanted c a.at a.operand).value h.0)
  builtin_at c at Chr (a ∷ []) k h = join (argument_at c a h.0) (chr_at Here c a.at (value_wanted c a.at a.operand).value h.0)
  builtin_at c at Odd (a ∷ []) k h = join (argument_at c a h.0) (odd_at Here c a.at (value_wanted c a.at a.operand).value h.0)
  builtin_at c at Ord (a ∷ []) k h = join (argument_at c a h.0) (ord_at Here c a.at (value_wanted c a.at a.operand).value h.0)
  builtin_at c at Val (t ∷ a ∷ []) k h = join (argument_at c a h.1.0) (val_at Here c t.at t.operand a.at (value_wanted c a.at a.operand).value h.0 h.1.0)
  builtin_at c at Min (a ∷ []) k h = min_at Here c a.at a.operand h.0
  builtin_at c at Max (a ∷ []) k h = max_at Here c a.at a.operand h.0
  builtin_at c at Size (a ∷ []) k h = size_at Here c a.at a.operand h.0
  builtin_at c at Dec args k h = none
  builtin_at c at Dispose args k h = none
  builtin_at c at Excl args k h = none
  builtin_at c at Halt args k h = none
  builtin_at c at High args k h = none
  builtin_at c at Inc args k h = none
  builtin_at c at Incl args k h = none
  builtin_at c at New args k h = none
  builtin_at c at b args k h = one k

  call_at : (c : Context) (at : ℕ) (o : Operand) (args : List Argument) → Here at → ArgsAt args → GivesAt Here c (call_of c at o args)
  call_at c at (StandardProcedure m) args k h = builtin_at c at (builtin_of m) args k h
  call_at c at (ModuleName s) args k h = one k
  call_at c at InError args k h = none
  call_at c at o args k h = none

  args_at : (es : Exprs) (c : Context) → ExprsHave (Stands Here) es → ArgsAt (arguments_in c es).value
  args_at no_exprs c h = tt
  args_at (more_exprs e es) c h = (first_token e h.0, args_at es c h.1)

  -- ** Expressions

  -- an expression where a value is wanted
  value_at : (e : Expr) (c : Context) → ExprHas (Stands Here) e → GivesAt Here c (value_wanted c (expr_at e) (operand_in c e).value)
  value_at e c h = wanted_at c (expr_at e) (operand_in c e).value (first_token e h)

  -- an end of a range, or an element, taken into a set
  taken_at : (e : Expr) (c : Context) (base : Place) → ExprHas (Stands Here) e → GivesAt Here c (element_of c base (expr_at e) (value_wanted c (expr_at e) (operand_in c e).value).value)
  taken_at e c base h = element_at Here c base (expr_at e) (value_wanted c (expr_at e) (operand_in c e).value).value (first_token e h)

  mutual
    operand_at : (e : Expr) (c : Context) → ExprHas (Stands Here) e → GivesAt Here c (operand_in c e)
    operand_at (expr at form) c h = form_at form c at h.0 h.1

    form_at : (form : ExprForm) (c : Context) (at : ℕ) → Here at → FormHas (Stands Here) form → GivesAt Here c (form_in c at form)
    form_at (number_form v) c at k h = none
    form_at (char_form v) c at k h = none
    form_at (string_form v) c at k h = none
    form_at (set_form items) c at k h = elements_at items c (set_base c bitset) (no_elements c bitset) h
    form_at (typed_set_form d items) c at k h =
        let o = (designator_in c d).value in
        let t = (set_type_of c (designator_at d) o).value in
        join (designators_at d c h.0)
        (join (set_type_at Here c (designator_at d) o (first_stand d h.0)) (elements_at items c (set_base c t) (no_elements c t) h.1))
    form_at (name_form d) c at k h = designators_at d c h
    form_at (call_form d args) c at k h =
        join (designators_at d c h.0)
        (join (arguments_at args c h.1) (call_at c (designator_at d) (designator_in c d).value (arguments_in c args).value (first_stand d h.0) (args_at args c h.1)))
    form_at (one_form op op_at e) c at k h =
        join (operand_at e c h.1) (join (value_at e c h.1) (apply_at Here c op op_at (value_wanted c (expr_at e) (operand_in c e).value).value h.0))
    form_at (many_form first rest) c at k h =
        join (operand_at first c h.0)
        (join (value_at first c h.0) (many_at rest c at (value_wanted c (expr_at first) (operand_in c first).value).value k h.1))

    many_at : (ns : Nexts) (c : Context) (at : ℕ) (x : Operand) → Here at → NextsHave (Stands Here) ns → GivesAt Here c (many_in c at x ns)
    many_at no_nexts c at x k h = none
    many_at (more_nexts m ns) c at x k h = join (next_at m c at x k h.0) (many_at ns c at (next_in c at x m).value k h.1)

    next_at : (m : Next) (c : Context) (at : ℕ) (x : Operand) → Here at → NextHas (Stands Here) m → GivesAt Here c (next_in c at x m)
    next_at (next op op_at right) c at x k h =
        let y = (value_wanted c (expr_at right) (operand_in c right).value).value in
        join (operand_at right c h.1)
        (join (value_at right c h.1) (operate_at Here c op op_at x at y (expr_at right) h.0 k (first_token right h.1)))

    elements_at : (ls : Labels) (c : Context) (base : Place) (bits : Operand) → LabelsHave (Stands Here) ls → GivesAt Here c (elements_in c base bits ls)
    elements_at no_labels c base bits h = none
    elements_at (more_labels l ls) c base bits h = join (label_at l c base bits h.0) (elements_at ls c base (element_in c base bits l).value h.1)

    label_at : (l : Label) (c : Context) (base : Place) (bits : Operand) → LabelHas (Stands Here) l → GivesAt Here c (element_in c base bits l)
    label_at (one_label e) c base bits h = join (operand_at e c h) (join (value_at e c h) (join (taken_at e c base h) none))
    label_at (range_label low high) c base bits h =
        join (operand_at low c h.0) (join (value_at low c h.0) (join (taken_at low c base h.0)
        (join (operand_at high c h.1) (join (value_at high c h.1) (join (taken_at high c base h.1) none)))))

    designators_at : (d : Designator) (c : Context) → DesignatorHas (Stands Here) d → GivesAt Here c (designator_in c d)
    designators_at (designator first rest) c h = join (name_at c None first h.0) (selectors_at rest c first.at (name_operand c None first).value h.0 h.1)

    selectors_at : (ss : Selectors) (c : Context) (at : ℕ) (o : Operand) → Here at → SelectorsHave (Stands Here) ss → GivesAt Here c (selectors_in c at o ss)
    selectors_at no_selectors c at o k h = none
    selectors_at (more_selectors s ss) c at o k h = join (selector_at s c at o k h.0) (selectors_at ss c at (selector_in c at o s).value k h.1)

    selector_at : (s : Selector) (c : Context) (at : ℕ) (o : Operand) → Here at → SelectorHas (Stands Here) s → GivesAt Here c (selector_in c at o s)
    selector_at (field_selector i dot) c at o k h = field_at c at o i k h.0
    selector_at (index_selector es bracket) c at o k h = indices_at es c at o k h.0
    selector_at (deref_selector caret) c at o k h = selected_at c at o k

    indices_at : (es : Exprs) (c : Context) (at : ℕ) (o : Operand) → Here at → ExprsHave (Stands Here) es → GivesAt Here c (indices_in c at o es)
    indices_at no_exprs c at o k h = none
    indices_at (more_exprs e es) c at o k h =
        let v = (value_wanted c (expr_at e) (operand_in c e).value).value in
        let p = (selected c at o).value in
        join (operand_at e c h.0) (join (value_at e c h.0) (join (selected_at c at o k) (indices_at es c at (spoilt_by v p) k h.1)))

    arguments_at : (es : Exprs) (c : Context) → ExprsHave (Stands Here) es → GivesAt Here c (arguments_in c es)
    arguments_at no_exprs c h = none
    arguments_at (more_exprs e es) c h = join (operand_at e c h.0) (join (arguments_at es c h.1) none)

  constant_or_at : (c : Context) (at : ℕ) (o : Operand) → Here at → GivesAt Here c (constant_or_refused c at o)
  constant_or_at c at (Constant t v) h = none
  constant_or_at c at (StringConstant m l) h = none
  constant_or_at c at InError h = none
  constant_or_at c at o h = one h

  pub constant_at : (e : Expr) (c : Context) → ExprHas (Stands Here) e → GivesAt Here c (constant_of c e)
  constant_at e c h =
      join (operand_at e c h) (join (value_at e c h) (constant_or_at c (expr_at e) (value_wanted c (expr_at e) (operand_in c e).value).value (first_token e h)))
