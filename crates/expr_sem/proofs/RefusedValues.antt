-- Values, designators, operators and sets: where a rule notes a diagnostic, what it gives is in error, and so is what it makes of
-- an error.
use Rattle.std.specs.Prelude.{◌≡◌, refl, ℕ, List, Option, Some, None}
use Rattle.std.proofs.Common.{subst, sym}
use Rattle.m2_base.specs.Gives.{Gives, and_then, gives}
use Rattle.m2_base.specs.Standard.{cardinal}
use Rattle.m2_base.specs.Statics.Contexts.{Context}
use Rattle.m2_base.specs.Statics.Diagnostics.{not_assignable}
use Rattle.m2_base.specs.Statics.Lookup.{Entry}
use Rattle.m2_base.specs.Statics.Operands.{operand_type}
use Rattle.m2_base.specs.Statics.Operations.{apply_one, operate}
use Rattle.m2_base.specs.Statics.Ranges.{Range}
use Rattle.m2_base.specs.Statics.Sets.{element_of, with_elements}
use Rattle.m2_base.specs.Statics.TypeParts.{field_of}
use Rattle.m2_base.specs.Statics.Types.{kind_of, range_of}
use Rattle.m2_base.specs.Statics.Uses.{use_of}
use Rattle.m2_base.specs.declared.operands.Operand.TheVariants.{Constant, InError, ModuleName, NamedType, NotConstant, Procedure, StandardProcedure, Variable}
use Rattle.m2_base.specs.declared.operands.Operand.{Operand}
use Rattle.m2_base.specs.declared.rows.Place.{Place}
use Rattle.m2_base.specs.declared.rows.Row.{Row}
use Rattle.m2_base.specs.declared.rows.RowMeaning.TheVariants.{Array, OpenArray, Pointer, Record}
use Rattle.m2_base.specs.declared.rows.RowMeaning.{RowMeaning}
use Rattle.m2_base.specs.declared.trees.Ident.{Ident}
use Rattle.m2_base.specs.declared.trees.operators.Operator.{Operator}
use Rattle.const_eval.proofs.RefusedSteps.{IsError, IsMissing, QuietOr, of-error, quiet, quiet-then, tests, wrong}
use Rattle.const_eval.proofs.RefusedOperands.{apply-quiet, element_of-quiet, operate-quiet, operate-second, use-quiet, with_error-high, with_error-low}
use Rattle.block_code.proofs.ValueHeights.{with_operand}
use Rattle.block_code.specs.Coded.{Coded, value_code, with_char}
use Rattle.block_code.specs.Elements.{element_of_array, element_of_open, of_array, of_pointer, select_element, select_element_by, select_target, select_target_by}
use Rattle.block_code.specs.Operators.{made, one_coded, one_instr, operation_code, two_coded}
use Rattle.block_code.specs.Parts.{Part, plain, ◌⨟◌}
use Rattle.block_code.specs.RecordFields.{field_or_use, found_field, name_coded, of_record, select_field, select_field_by, with_field}
use Rattle.block_code.specs.SetElements.{Elements, add_element, add_range, element_as, element_coded, set_by, set_coded}
use Rattle.block_code.specs.Values.{as_value, as_value_by, assigned_to, in_range, in_range_by}
use Rattle.block_code.specs.Variables.{entry_coded}

-- the operand is in error
abbrev pub Erred : Coded → Type 0
Erred x = x.operand ≡ InError

-- so are the elements of a set
abbrev pub AreErred : Elements → Type 0
AreErred es = es.set ≡ InError

-- what holds of an error with any code holds of an operand in error with its code
pub of-erred : (P : Coded → Type 0) (x : Coded) → Erred x → ((code high : Part) → P (with_operand InError code high)) → P x
of-erred P x e p = subst (λ o. P (with_operand o x.code x.high)) (sym e) (p x.code x.high)

-- the rule gives what is wrong only where it notes something
abbrev pub QuietCoded : Gives Coded → Type 0
QuietCoded g = QuietOr Erred g

module _ (c : Context) where
  -- ---- values

  as_value_by-quiet : (at : ℕ) (x : Coded) (o : Operand) → QuietCoded (as_value_by c at x o)
  as_value_by-quiet at x (NamedType t) = wrong refl
  as_value_by-quiet at x (ModuleName s) = wrong refl
  as_value_by-quiet at x (StandardProcedure n) = wrong refl
  as_value_by-quiet at x (Procedure n t k s) = search tests
  as_value_by-quiet at x o = quiet refl

  pub as_value-quiet : (at : ℕ) (x : Coded) → QuietCoded (as_value c at x)
  as_value-quiet at x = as_value_by-quiet at x x.operand

  pub as_value-error : (at : ℕ) (x : Coded) → Erred x → Erred (as_value c at x).value
  as_value-error at x e = of-erred (λ y. Erred (as_value c at y).value) x e (λ code high. refl)

  in_range_by-quiet : (at : ℕ) (r : Option Range) (x : Coded) (o : Operand) → QuietCoded (in_range_by c at r x o)
  in_range_by-quiet at r x (Constant t v) = search tests
  in_range_by-quiet at r x o = quiet refl

  pub in_range-quiet : (at : ℕ) (to : Place) (x : Coded) → QuietCoded (in_range c at to x)
  in_range-quiet at to x = in_range_by-quiet at (range_of c.scene to) x x.operand

  pub assigned-quiet : (to : Place) (at code : ℕ) (x : Coded) → QuietCoded (assigned_to c to at code x)
  assigned-quiet to at code x = search (tests, in_range-quiet)

  pub assigned-error : (to : Place) (at code : ℕ) (x : Coded) → Erred x → Erred (assigned_to c to at code x).value
  assigned-error to at code x e = of-erred (λ y. Erred (assigned_to c to at code y).value) x e (λ own high. refl)

  -- ---- names and fields

  entry-missing : (e : Option Entry) → IsMissing e → Erred (entry_coded c e)
  entry-missing e h = subst (λ o. Erred (entry_coded c o)) (sym h) refl

  use_coded-quiet : (within : Option ℕ) (i : Ident) → QuietCoded (and_then (use_of c within i.name i.at) (λ e. gives (entry_coded c e)))
  use_coded-quiet within i =
      quiet-then IsMissing Erred (use_of c within i.name i.at) (λ e. gives (entry_coded c e)) (use-quiet c within i.name i.at)
      (entry-missing (use_of c within i.name i.at).value) (quiet refl)

  field_or_use-quiet : (i : Ident) (x : Option Coded) → QuietCoded (field_or_use c i x)
  field_or_use-quiet i None = use_coded-quiet None i
  field_or_use-quiet i (Some x) = quiet refl

  pub name-quiet : (withs : List Place) (i : Ident) → QuietCoded (name_coded c withs i)
  name-quiet withs i = field_or_use-quiet i (with_field c.scene 0 withs i.name)

  found-quiet : (code : Part) (i : Ident) (f : Option Row) → QuietCoded (found_field c code i f)
  found-quiet code i None = wrong refl
  found-quiet code i (Some f) = quiet refl

  record-quiet : (at : ℕ) (code : Part) (i : Ident) (t : Place) (m : RowMeaning) → QuietCoded (of_record c at code i t m)
  record-quiet at code i t (Record f s) = found-quiet code i (field_of c.scene t i.name)
  record-quiet at code i t m = wrong refl

  field_by-quiet : (first at : ℕ) (i : Ident) (code : Part) (o : Operand) → QuietCoded (select_field_by c first at i code o)
  field_by-quiet first at i code (ModuleName s) = use_coded-quiet (Some s) i
  field_by-quiet first at i code (Variable t) = record-quiet at code i t (kind_of c.scene t)
  field_by-quiet first at i code InError = quiet refl
  field_by-quiet first at i code NotConstant = quiet refl
  field_by-quiet first at i code o = wrong refl

  pub select_field-quiet : (first at : ℕ) (i : Ident) (x : Coded) → QuietCoded (select_field c first at i x)
  select_field-quiet first at i x = field_by-quiet first at i x.code x.operand

  pub select_field-error : (first at : ℕ) (i : Ident) (x : Coded) → Erred x → Erred (select_field c first at i x).value
  select_field-error first at i x e = of-erred (λ y. Erred (select_field c first at i y).value) x e (λ code high. refl)

  -- ---- targets of pointers

  pointer-quiet : (at : ℕ) (code : Part) (t : Place) (m : RowMeaning) → QuietCoded (of_pointer c at code t m)
  pointer-quiet at code t (Pointer p) = search tests
  pointer-quiet at code t m = wrong refl

  target_by-quiet : (first at : ℕ) (code : Part) (o : Operand) → QuietCoded (select_target_by c first at code o)
  target_by-quiet first at code (Variable t) = pointer-quiet at code t (kind_of c.scene t)
  target_by-quiet first at code InError = quiet refl
  target_by-quiet first at code NotConstant = quiet refl
  target_by-quiet first at code o = wrong refl

  pub select_target-quiet : (first at : ℕ) (x : Coded) → QuietCoded (select_target c first at x)
  select_target-quiet first at x = target_by-quiet first at x.code x.operand

  pub select_target-error : (first at : ℕ) (x : Coded) → Erred x → Erred (select_target c first at x).value
  select_target-error first at x e = of-erred (λ y. Erred (select_target c first at y).value) x e (λ code high. refl)

  -- ---- elements of arrays

  element_of_array-error : (x : Coded) (index elem : Place) (i : Coded) → Erred i → Erred (element_of_array c x index elem i).value
  element_of_array-error x index elem i e = of-erred (λ j. Erred (element_of_array c x index elem j).value) i e (λ code high. refl)

  element_of_open-error : (x : Coded) (elem : Place) (i : Coded) → Erred i → Erred (element_of_open c x elem i).value
  element_of_open-error x elem i e = of-erred (λ j. Erred (element_of_open c x elem j).value) i e (λ code high. refl)

  element_of_array-quiet : (x : Coded) (index elem : Place) (i : Coded) → QuietCoded (element_of_array c x index elem i)
  element_of_array-quiet x index elem i = search tests

  element_of_open-quiet : (x : Coded) (elem : Place) (i : Coded) → QuietCoded (element_of_open c x elem i)
  element_of_open-quiet x elem i = search tests

  array-quiet : (at : ℕ) (x : Coded) (i_at : ℕ) (i : Coded) (m : RowMeaning) → QuietCoded (of_array c at x i_at i m)
  array-quiet at x i_at i (Array index elem s) =
      let v : Gives Coded = assigned_to c index i_at not_assignable i in
      quiet-then Erred Erred v (element_of_array c x index elem) (assigned-quiet index i_at not_assignable i)
      (element_of_array-error x index elem v.value) (element_of_array-quiet x index elem v.value)
  array-quiet at x i_at i (OpenArray elem) =
      let v : Gives Coded = assigned_to c cardinal i_at not_assignable i in
      quiet-then Erred Erred v (element_of_open c x elem) (assigned-quiet cardinal i_at not_assignable i)
      (element_of_open-error x elem v.value) (element_of_open-quiet x elem v.value)
  array-quiet at x i_at i m = wrong refl

  array-error : (at : ℕ) (x : Coded) (i_at : ℕ) (i : Coded) (m : RowMeaning) → Erred i → Erred (of_array c at x i_at i m).value
  array-error at x i_at i (Array index elem s) e =
      element_of_array-error x index elem (assigned_to c index i_at not_assignable i).value (assigned-error index i_at not_assignable i e)
  array-error at x i_at i (OpenArray elem) e =
      element_of_open-error x elem (assigned_to c cardinal i_at not_assignable i).value (assigned-error cardinal i_at not_assignable i e)
  array-error at x i_at i m e = refl

  element_by-quiet : (first at i_at : ℕ) (i x : Coded) (o : Operand) → QuietCoded (select_element_by c first at i_at i x o)
  element_by-quiet first at i_at i x (Variable t) = array-quiet at x i_at i (kind_of c.scene t)
  element_by-quiet first at i_at i x InError = quiet refl
  element_by-quiet first at i_at i x NotConstant = quiet refl
  element_by-quiet first at i_at i x o = wrong refl

  element_by-error : (first at i_at : ℕ) (i x : Coded) (o : Operand) → Erred i → Erred (select_element_by c first at i_at i x o).value
  element_by-error first at i_at i x (Variable t) e = array-error at x i_at i (kind_of c.scene t) e
  element_by-error first at i_at i x InError e = refl
  element_by-error first at i_at i x NotConstant e = refl
  element_by-error first at i_at i x o e = refl

  pub select_element-quiet : (first at i_at : ℕ) (i x : Coded) → QuietCoded (select_element c first at i_at i x)
  select_element-quiet first at i_at i x = element_by-quiet first at i_at i x x.operand

  pub select_element-error : (first at i_at : ℕ) (i x : Coded) → Erred x → Erred (select_element c first at i_at i x).value
  select_element-error first at i_at i x e = of-erred (λ y. Erred (select_element c first at i_at i y).value) x e (λ code high. refl)

  -- by an index in error
  pub select_element-index : (first at i_at : ℕ) (i x : Coded) → Erred i → Erred (select_element c first at i_at i x).value
  select_element-index first at i_at i x e = element_by-error first at i_at i x x.operand e

  -- ---- operators

  -- what is made of a rule's result
  pub made-quiet : (g : Gives Operand) (code : Operand → Part) → QuietOr IsError g → QuietCoded (and_then g (λ r. gives (made r (code r))))
  made-quiet g code q = quiet-then IsError Erred g (λ r. gives (made r (code r))) q (λ e. of-error (λ r. Erred (made r (code r))) g.value e refl) (quiet refl)

  pub made-error : (r : Operand) (code : Operand → Part) → IsError r → Erred (made r (code r))
  made-error r code e = of-error (λ o. Erred (made o (code o))) r e refl

  pub one-quiet : (op : Operator) (op_at : ℕ) (x : Coded) → QuietCoded (one_coded c op op_at x)
  one-quiet op op_at x =
      made-quiet (apply_one c op op_at x.operand) (λ r. value_code c x ⨟ plain (one_instr op)) (apply-quiet c op op_at x.operand)

  pub one-error : (op : Operator) (op_at : ℕ) (x : Coded) → Erred x → Erred (one_coded c op op_at x).value
  one-error op op_at x e = of-erred (λ y. Erred (one_coded c op op_at y).value) x e (λ code high. refl)

  module _ (op : Operator) (op_at x_at y_at : ℕ) (x y : Coded) where
    code_of : Operand → Part
    code_of r = operation_code c.scene op (operand_type r) (operand_type y.operand) (value_code c (with_char c x)) (value_code c (with_char c y))

    pub two-quiet : QuietCoded (two_coded c op op_at x_at x y_at y)
    unfolding code_of
    two-quiet = made-quiet (operate c op op_at x.operand x_at y.operand y_at) code_of (operate-quiet c op op_at x.operand x_at y.operand y_at)

    pub two-first : Erred x → Erred (two_coded c op op_at x_at x y_at y).value
    two-first e = of-erred (λ z. Erred (two_coded c op op_at x_at z y_at y).value) x e (λ code high. refl)

    pub two-second : Erred y → Erred (two_coded c op op_at x_at x y_at y).value
    unfolding code_of
    two-second e =
        let r : Operand = (operate c op op_at x.operand x_at y.operand y_at).value in
        made-error r code_of
        (of-error (λ o. IsError (operate c op op_at x.operand x_at o y_at).value) y.operand e (operate-second c op op_at x.operand x_at y_at))

  -- ---- sets

  pub element-quiet : (base : Place) (at : ℕ) (x : Coded) → QuietCoded (element_coded c base at x)
  element-quiet base at x =
      quiet-then IsError Erred (element_of c base at x.operand) (λ o. gives (element_as x o)) (element_of-quiet c base at x.operand)
      (λ e. of-error (λ o. Erred (element_as x o)) (element_of c base at x.operand).value e refl) (quiet refl)

  pub element-error : (base : Place) (at : ℕ) (x : Coded) → Erred x → Erred (element_coded c base at x).value
  element-error base at x e = of-erred (λ y. Erred (element_coded c base at y).value) x e (λ code high. refl)

  pub add_element-set : (es : Elements) (x : Coded) → AreErred es → AreErred (add_element c es x)
  add_element-set es x e = of-error (λ bits. IsError (with_elements bits x.operand x.operand)) es.set e refl

  pub add_element-error : (es : Elements) (x : Coded) → Erred x → AreErred (add_element c es x)
  add_element-error es x e = of-error (λ o. IsError (with_elements es.set o o)) x.operand e (with_error-low es.set InError)

  pub add_range-set : (es : Elements) (x y : Coded) → AreErred es → AreErred (add_range c es x y)
  add_range-set es x y e = of-error (λ bits. IsError (with_elements bits x.operand y.operand)) es.set e refl

  pub add_range-low : (es : Elements) (x y : Coded) → Erred x → AreErred (add_range c es x y)
  add_range-low es x y e = of-error (λ o. IsError (with_elements es.set o y.operand)) x.operand e (with_error-low es.set y.operand)

  pub add_range-high : (es : Elements) (x y : Coded) → Erred y → AreErred (add_range c es x y)
  add_range-high es x y e = of-error (λ o. IsError (with_elements es.set x.operand o)) y.operand e (with_error-high es.set x.operand)

  pub set-error : (t : Place) (es : Elements) → AreErred es → Erred (set_coded t es)
  set-error t es e = of-error (λ o. Erred (set_by t es.code o)) es.set e refl
