-- The constants of a block's labels and steps have values in range, and so have the tests of its labels.
use Rattle.std.specs.Prelude.{ℕ, ℤ, List, [], ◌∷◌, ◌++◌, ◌&&◌, int_le, Option, Some, None}
use Rattle.std.specs.List.{list_any}
use Rattle.std.proofs.Common.{arith}
use Rattle.m2_base.proofs.SoundOperands.{natural-value}
use Rattle.m2_base.proofs.SoundTypes.{either}
use Rattle.m2_base.specs.Gives.{Gives, gives}
use Rattle.m2_base.specs.Lists.{Each, WhereKept}
use Rattle.m2_base.specs.Rows.{IsValue}
use Rattle.m2_base.specs.declared.rows.Place.{Place}
use Rattle.m2_base.specs.Standard.{bitset}
use Rattle.m2_base.specs.Trees.{Expr, expr, ExprForm, number_form, char_form, string_form, set_form, typed_set_form, name_form, call_form, one_form, many_form, Exprs, no_exprs, more_exprs, Next, next, Nexts, no_nexts, more_nexts, Designator, designator, designator_at, Selector, field_selector, index_selector, deref_selector, Selectors, no_selectors, more_selectors, Label, one_label, range_label, Labels, no_labels, more_labels, expr_at}
use Rattle.m2_base.specs.declared.trees.Ident.{Ident}
use Rattle.m2_base.specs.Statics.Builtins.{builtin_of}
use Rattle.m2_base.specs.Statics.CaseLabels.{CaseLabels, LabelTest, case_labels, cover, label_of, labels_of, one_taken, one_test, overlaps, range_taken, range_test, taken_label}
use Rattle.m2_base.specs.Statics.Compatible.{is_compatible}
use Rattle.m2_base.specs.Statics.Constants.{in_constant, value_wanted, selected, spoilt_by, name_operand, field_operand, Argument, no_constant, builtin_call, call_of, operand_in, form_in, many_in, next_in, elements_in, element_in, designator_in, selectors_in, selector_in, indices_in, arguments_in, constant_or_refused, constant_of}
use Rattle.m2_base.specs.Statics.Contexts.{Context, refuse}
use Rattle.m2_base.specs.Statics.Diagnostics.{wrong_label}
use Rattle.m2_base.specs.Statics.FormedRows.{IsSoundText}
use Rattle.m2_base.specs.Statics.Operands.{constant_of_operand}
use Rattle.m2_base.specs.Statics.Ranges.{Range, range}
use Rattle.m2_base.specs.Statics.ReadTrees.{AreReadExprs, AreReadLabels, IsReadExpr, IsReadForm, IsReadLabel}
use Rattle.m2_base.specs.Statics.Sets.{set_type_of, set_base, no_elements}
use Rattle.m2_base.specs.Statics.Types.{is_broken}
use Rattle.m2_base.specs.Statics.Uses.{use_of}
use Rattle.m2_base.specs.declared.builtins.Builtin.{Builtin}
use Rattle.m2_base.specs.declared.builtins.Builtin.TheVariants.{Abs, Cap, Chr, Dec, Dispose, Excl, Halt, High, Inc, Incl, Max, Min, New, Odd, Ord, Size, Val}
use Rattle.m2_base.specs.declared.operands.Operand.{Operand}
use Rattle.m2_base.specs.declared.operands.Operand.TheVariants.{Computed, Constant, StringConstant, Variable, NamedType, Procedure, StandardProcedure, ModuleName, InError}
use Rattle.row_laws.specs.RowRanges.{RowsInRange}
use Rattle.block_laws.specs.Sight.{Sees}
use Rattle.block_laws.proofs.Values.{HasValues, IsProcedure, entry_operand, member_use, plain_use}
use Rattle.block_laws.proofs.Results.{abs-values, apply-values, beside-values, cap-values, chr-values, max-values, min-values, no_elements-values, odd-values, operate-values, ord-values, size-values, val-values, with_elements-values}

module _ (names : List (List ℕ)) (seen : ℕ → Type 0) (c : Context) (rows : RowsInRange c.scene) (text : IsSoundText c.source) (sees : Sees seen c.scene) where
  abbrev P : ℕ → Place → ℕ → ℕ → Type 0
  P name t k s = IsProcedure seen c.scene name t k s

  abbrev Ok : Operand → Type 0
  Ok o = HasValues seen P o

  abbrev Given : Gives Operand → Type 0
  Given g = HasValues seen P g.value

  -- ** Operands in constants

  in_constant-ok : (o : Operand) → Ok o → Ok (in_constant o)
  in_constant-ok (Variable t) h = tt
  in_constant-ok o h = h

  wanted-ok : (at : ℕ) (o : Operand) → Ok o → Given (value_wanted c at o)
  wanted-ok at (NamedType t) h = tt
  wanted-ok at (ModuleName s) h = tt
  wanted-ok at (StandardProcedure n) h = tt
  wanted-ok at (Procedure n t k s) h = tt
  wanted-ok at o h = h

  selected-ok : (at : ℕ) (o : Operand) → Given (selected c at o)
  selected-ok at (NamedType t) = tt
  selected-ok at (ModuleName s) = tt
  selected-ok at InError = tt
  selected-ok at o = tt

  spoilt-ok : (part o : Operand) → Ok o → Ok (spoilt_by part o)
  spoilt-ok InError o h = tt
  spoilt-ok part o h = h

  name-ok : (i : Ident) → Given (name_operand c None i)
  name-ok i = in_constant-ok _ (entry_operand seen c.scene rows (use_of c None i.name i.at).value sees (plain_use seen c sees i.name i.at))

  member-ok : (s : ℕ) (i : Ident) → seen s → Given (name_operand c (Some s) i)
  member-ok s i h = in_constant-ok _ (entry_operand seen c.scene rows (use_of c (Some s) i.name i.at).value sees (member_use seen c sees s i.name i.at h))

  field-ok : (at : ℕ) (o : Operand) (i : Ident) → Ok o → Given (field_operand c at o i)
  field-ok at (ModuleName s) i h = member-ok s i h
  field-ok at o i h = selected-ok at o

  -- ** Designators

  indices-ok : (es : Exprs) (at : ℕ) (o : Operand) → Ok o → Given (indices_in c at o es)
  indices-ok no_exprs at o h = h
  indices-ok (more_exprs e es) at o h =
      let v = (value_wanted c (expr_at e) (operand_in c e).value).value in
      let p = (selected c at o).value in
      indices-ok es at (spoilt_by v p) (spoilt-ok v p (selected-ok at o))

  selector-ok : (s : Selector) (at : ℕ) (o : Operand) → Ok o → Given (selector_in c at o s)
  selector-ok (field_selector i dot) at o h = field-ok at o i h
  selector-ok (index_selector es bracket) at o h = indices-ok es at o h
  selector-ok (deref_selector caret) at o h = selected-ok at o

  selectors-ok : (ss : Selectors) (at : ℕ) (o : Operand) → Ok o → Given (selectors_in c at o ss)
  selectors-ok no_selectors at o h = h
  selectors-ok (more_selectors s ss) at o h = selectors-ok ss at (selector_in c at o s).value (selector-ok s at o h)

  designator-ok : (d : Designator) → Given (designator_in c d)
  designator-ok (designator first rest) = selectors-ok rest first.at (name_operand c None first).value (name-ok first)

  -- ** Calls

  abbrev ArgsOk : List Argument → Type 0
  ArgsOk args = Each (λ a. Ok a.operand) args

  no_constant-ok : (args : List Argument) → Ok (no_constant args)
  no_constant-ok [] = tt
  no_constant-ok (a ∷ args) = spoilt-ok a.operand (no_constant args) (no_constant-ok args)

  builtin-ok : (at : ℕ) (b : Builtin) (args : List Argument) → ArgsOk args → Given (builtin_call c at b args)
  builtin-ok at Abs (a ∷ []) h = abs-values seen P c text a.at _ (wanted-ok a.at a.operand h.0)
  builtin-ok at Cap (a ∷ []) h = cap-values seen P c text a.at _ (wanted-ok a.at a.operand h.0)
  builtin-ok at Chr (a ∷ []) h = chr-values seen P c text a.at _ (wanted-ok a.at a.operand h.0)
  builtin-ok at Odd (a ∷ []) h = odd-values seen P c text a.at (value_wanted c a.at a.operand).value
  builtin-ok at Ord (a ∷ []) h = ord-values seen P c text a.at _ (wanted-ok a.at a.operand h.0)
  builtin-ok at Val (t ∷ a ∷ []) h = val-values seen P c text t.at t.operand a.at _ (wanted-ok a.at a.operand h.1.0)
  builtin-ok at Min (a ∷ []) h = min-values seen P c text rows a.at a.operand
  builtin-ok at Max (a ∷ []) h = max-values seen P c text rows a.at a.operand
  builtin-ok at Size (a ∷ []) h = size-values seen P c text rows a.at a.operand
  builtin-ok at Dec args h = no_constant-ok args
  builtin-ok at Dispose args h = no_constant-ok args
  builtin-ok at Excl args h = no_constant-ok args
  builtin-ok at Halt args h = no_constant-ok args
  builtin-ok at High args h = no_constant-ok args
  builtin-ok at Inc args h = no_constant-ok args
  builtin-ok at Incl args h = no_constant-ok args
  builtin-ok at New args h = no_constant-ok args
  builtin-ok at b args h = tt

  call-ok : (at : ℕ) (o : Operand) (args : List Argument) → ArgsOk args → Given (call_of c at o args)
  call-ok at (StandardProcedure n) args h = builtin-ok at (builtin_of n) args h
  call-ok at (ModuleName s) args h = tt
  call-ok at InError args h = tt
  call-ok at o args h = no_constant-ok args

  -- ** Expressions

  mutual
    pub expression-ok : (e : Expr) → IsReadExpr names e → Given (operand_in c e)
    expression-ok (expr at form) h = form-ok form at h

    form-ok : (form : ExprForm) (at : ℕ) → IsReadForm names form → Given (form_in c at form)
    form-ok (number_form n) at h = natural-value n h
    form-ok (char_form n) at h = natural-value n (omega (arith, h))
    form-ok (string_form n) at h = text.short n
    form-ok (set_form items) at h = elements-ok items (set_base c bitset) (no_elements c bitset) (no_elements-values seen P c bitset)
    form-ok (typed_set_form d items) at h =
        let o = (designator_in c d).value in
        let t = (set_type_of c (designator_at d) o).value in
        elements-ok items (set_base c t) (no_elements c t) (no_elements-values seen P c t)
    form-ok (name_form d) at h = designator-ok d
    form-ok (call_form d args) at h = call-ok (designator_at d) (designator_in c d).value (arguments_in c args).value (arguments-ok args h.1)
    form-ok (one_form op op_at e) at h = apply-values seen P c op op_at _ (wanted-ok (expr_at e) (operand_in c e).value (expression-ok e h))
    form-ok (many_form first rest) at h = many-ok rest at _ (wanted-ok (expr_at first) (operand_in c first).value (expression-ok first h.0))

    many-ok : (ns : Nexts) (at : ℕ) (x : Operand) → Ok x → Given (many_in c at x ns)
    many-ok no_nexts at x h = h
    many-ok (more_nexts n ns) at x h = many-ok ns at (next_in c at x n).value (next-ok n at x)

    next-ok : (n : Next) (at : ℕ) (x : Operand) → Given (next_in c at x n)
    next-ok (next op op_at right) at x = operate-values seen P c op op_at x at (value_wanted c (expr_at right) (operand_in c right).value).value (expr_at right)

    elements-ok : (ls : Labels) (base : Place) (bits : Operand) → Ok bits → Given (elements_in c base bits ls)
    elements-ok no_labels base bits h = h
    elements-ok (more_labels l ls) base bits h = elements-ok ls base (element_in c base bits l).value (label-ok l base bits h)

    label-ok : (l : Label) (base : Place) (bits : Operand) → Ok bits → Given (element_in c base bits l)
    label-ok (one_label e) base bits h = with_elements-values seen P bits _ _ h
    label-ok (range_label low high) base bits h = with_elements-values seen P bits _ _ h

    arguments-ok : (es : Exprs) → AreReadExprs names es → ArgsOk (arguments_in c es).value
    arguments-ok no_exprs h = tt
    arguments-ok (more_exprs e es) h = (expression-ok e h.0, arguments-ok es h.1)

  constant_by-ok : (at : ℕ) (o : Operand) → Ok o → WhereKept (constant_or_refused c at o).value Ok
  constant_by-ok at (Constant t v) h = h
  constant_by-ok at (StringConstant n l) h = h
  constant_by-ok at InError h = tt
  constant_by-ok at o h = tt

  pub constant-ok : (e : Expr) → IsReadExpr names e → WhereKept (constant_of c e).value Ok
  constant-ok e h = constant_by-ok (expr_at e) _ (wanted-ok (expr_at e) (operand_in c e).value (expression-ok e h))

  -- ** Labels

  -- the values of a label
  abbrev pub IsTestInRange : LabelTest → Type 0
  IsTestInRange l = IsValue l.low × WhereKept l.high IsValue

  abbrev pub AreTests : CaseLabels → Type 0
  AreTests l = Each IsTestInRange l.tests

  cover-tests : (at : ℕ) (test : LabelTest) (r : Range) (covered : List Range) → IsTestInRange test → AreTests (cover c at test r covered).value
  cover-tests at test r covered h =
      either (λ g. AreTests g.value) (int_le r.low r.high) _ (gives (case_labels _ (test ∷ []) covered))
      (either (λ g. AreTests g.value) (list_any (overlaps r) covered) (refuse c at wrong_label (case_labels _ [] (r ∷ covered))) (gives (case_labels _ (test ∷ []) (r ∷ covered))) tt (h, tt))
      (h, tt)

  value-ok : (o : Operand) → Ok o → WhereKept (constant_of_operand o) IsValue
  value-ok (Constant t v) h = h
  value-ok o h = tt

  one-tests : (at : ℕ) (v : Option ℤ) (covered : List Range) → WhereKept v IsValue → AreTests (one_test c at v covered).value
  one-tests at None covered h = tt
  one-tests at (Some v) covered h = cover-tests at (record { low = v; high = None }) (range v v) covered (h, tt)

  range-tests : (at : ℕ) (v w : Option ℤ) (covered : List Range) → WhereKept v IsValue → WhereKept w IsValue → AreTests (range_test c at v w covered).value
  range-tests at (Some v) (Some w) covered h k = cover-tests at (record { low = v; high = Some w }) (range v w) covered (h, k)
  range-tests at (Some v) None covered h k = tt
  range-tests at None w covered h k = tt

  taken-ok : (t : Place) (o : Operand) → Ok o → WhereKept (constant_of_operand (taken_label c t o)) IsValue
  taken-ok t o h = value-ok (taken_label c t o) (beside-values seen P c text o (Computed t) h)

  one_taken-tests : (at : ℕ) (t : Place) (covered : List Range) (o : Option Operand) → WhereKept o Ok → AreTests (one_taken c at t covered o).value
  one_taken-tests at t covered None h = tt
  one_taken-tests at t covered (Some x) h =
      either (λ g. AreTests g.value) (is_broken c.scene t) (gives (case_labels _ [] covered)) _ tt
      (either (λ g. AreTests g.value) (is_compatible c.scene x (Computed t)) _ (refuse c at wrong_label (case_labels _ [] covered))
      (one-tests at (constant_of_operand (taken_label c t x)) covered (taken-ok t x h)) tt)

  range_taken-tests : (at : ℕ) (t : Place) (covered : List Range) (o p : Option Operand) → WhereKept o Ok → WhereKept p Ok → AreTests (range_taken c at t covered o p).value
  range_taken-tests at t covered (Some x) (Some y) h k =
      either (λ g. AreTests g.value) (is_broken c.scene t) (gives (case_labels _ [] covered)) _ tt
      (either (λ g. AreTests g.value) (is_compatible c.scene x (Computed t) && is_compatible c.scene y (Computed t)) _ (refuse c at wrong_label (case_labels _ [] covered))
      (range-tests at (constant_of_operand (taken_label c t x)) (constant_of_operand (taken_label c t y)) covered (taken-ok t x h) (taken-ok t y k)) tt)
  range_taken-tests at t covered (Some x) None h k = tt
  range_taken-tests at t covered None p h k = tt

  label-tests : (t : Place) (covered : List Range) (l : Label) → IsReadLabel names l → AreTests (label_of c t covered l).value
  label-tests t covered (one_label e) h = one_taken-tests (expr_at e) t covered (constant_of c e).value (constant-ok e h)
  label-tests t covered (range_label low high) h =
      range_taken-tests (expr_at low) t covered (constant_of c low).value (constant_of c high).value (constant-ok low h.0) (constant-ok high h.1)

  tests-append : (a b : List LabelTest) → Each IsTestInRange a → Each IsTestInRange b → Each IsTestInRange (a ++ b)
  tests-append [] b h k = k
  tests-append (x ∷ a) b h k = (h.0, tests-append a b h.1 k)

  pub labels-tests : (t : Place) (covered : List Range) (ls : Labels) → AreReadLabels names ls → AreTests (labels_of c t covered ls).value
  labels-tests t covered no_labels h = tt
  labels-tests t covered (more_labels l ls) h =
      let first : CaseLabels = (label_of c t covered l).value in
      tests-append first.tests (labels_of c t first.covered ls).value.tests (label-tests t covered l h.0) (labels-tests t first.covered ls h.1)
