-- The diagnostics of operands with their code stand at their tokens: of values, names, selectors, operators and elements of sets.
use Rattle.std.specs.Prelude.{ℕ, ◌==◌, ◌||◌, List, Option, Some, None}
use Rattle.m2_base.specs.declared.rows.Place.{Place}
use Rattle.m2_base.specs.declared.rows.Row.{Row}
use Rattle.m2_base.specs.declared.rows.RowMeaning.{RowMeaning}
use Rattle.m2_base.specs.declared.rows.RowMeaning.TheVariants.{Array, OpenArray, Pointer, Record}
use Rattle.m2_base.specs.Standard.{cardinal}
use Rattle.m2_base.specs.declared.trees.Ident.{Ident}
use Rattle.m2_base.specs.declared.trees.operators.Operator.{Operator}
use Rattle.m2_base.specs.Statics.Assignable.{is_assignable, taken_into}
use Rattle.m2_base.specs.Statics.Contexts.{Context, level_of}
use Rattle.m2_base.specs.Statics.Diagnostics.{not_assignable}
use Rattle.m2_base.specs.Statics.Operands.{is_bad}
use Rattle.m2_base.specs.Statics.Ranges.{Range, is_within}
use Rattle.m2_base.specs.Statics.TypeParts.{field_of, target_of}
use Rattle.m2_base.specs.Statics.Types.{is_broken, kind_of, range_of}
use Rattle.m2_base.specs.declared.operands.Operand.{Operand}
use Rattle.m2_base.specs.declared.operands.Operand.TheVariants.{Constant, InError, ModuleName, NamedType, NotConstant, Procedure, StandardProcedure, Variable}
use Rattle.m2_base.proofs.StandingNotes.{GivesAt, gives_either, join, none, one, use_at}
use Rattle.m2_base.proofs.StandingOperations.{apply_at, element_at, operate_at}
use Rattle.block_code.specs.Coded.{Coded, taken}
use Rattle.block_code.specs.Elements.{element_of_array, element_of_open, of_array, of_pointer, select_element, select_element_by, select_target, select_target_by}
use Rattle.block_code.specs.Operators.{one_coded, two_coded}
use Rattle.block_code.specs.Parts.{Part}
use Rattle.block_code.specs.RecordFields.{field_or_use, found_field, name_coded, of_record, select_field, select_field_by, with_field}
use Rattle.block_code.specs.SetElements.{element_coded}
use Rattle.block_code.specs.Values.{as_value, as_value_by, assigned_to, in_range, in_range_by, is_passed_over}

module _ (Here : ℕ → Type 0) where
  -- ** Values

  as_value_by_at : (c : Context) (at : ℕ) (x : Coded) (o : Operand) → Here at → GivesAt Here c (as_value_by c at x o)
  as_value_by_at c at x (NamedType t) h = one h
  as_value_by_at c at x (ModuleName s) h = one h
  as_value_by_at c at x (StandardProcedure m) h = one h
  as_value_by_at c at x (Procedure m t k s) h = gives_either (level_of c.scene.block t.scope == 0) _ _ none (one h)
  as_value_by_at c at x o h = none

  pub as_value_at : (c : Context) (at : ℕ) (x : Coded) → Here at → GivesAt Here c (as_value c at x)
  as_value_at c at x h = as_value_by_at c at x x.operand h

  in_range_by_at : (c : Context) (at : ℕ) (r : Option Range) (x : Coded) (o : Operand) → Here at → GivesAt Here c (in_range_by c at r x o)
  in_range_by_at c at r x (Constant t v) h = gives_either (is_within r v) _ _ none (one h)
  in_range_by_at c at r x o h = none

  pub in_range_at : (c : Context) (at : ℕ) (to : Place) (x : Coded) → Here at → GivesAt Here c (in_range c at to x)
  in_range_at c at to x h = in_range_by_at c at (range_of c.scene to) x x.operand h

  pub assigned_at : (c : Context) (to : Place) (at code : ℕ) (x : Coded) → Here at → GivesAt Here c (assigned_to c to at code x)
  assigned_at c to at code x h =
      gives_either (is_passed_over c.scene to x.operand) _ _ none
      (gives_either (is_assignable c.scene to x.operand) _ _ (in_range_at c at to (taken (taken_into c.source c.scene to x.operand) x) h) (one h))

  -- ** Names

  field_or_use_at : (c : Context) (i : Ident) (o : Option Coded) → Here i.at → GivesAt Here c (field_or_use c i o)
  field_or_use_at c i None h = join (use_at Here c None i.name i.at h) none
  field_or_use_at c i (Some x) h = none

  pub name_at : (c : Context) (withs : List Place) (i : Ident) → Here i.at → GivesAt Here c (name_coded c withs i)
  name_at c withs i h = field_or_use_at c i (with_field c.scene 0 withs i.name) h

  -- ** Selectors

  found_field_at : (c : Context) (code : Part) (i : Ident) (o : Option Row) → Here i.at → GivesAt Here c (found_field c code i o)
  found_field_at c code i None h = one h
  found_field_at c code i (Some f) h = none

  of_record_at : (c : Context) (at : ℕ) (code : Part) (i : Ident) (t : Place) (m : RowMeaning) → Here at → Here i.at → GivesAt Here c (of_record c at code i t m)
  of_record_at c at code i t (Record f s) h k = found_field_at c code i (field_of c.scene t i.name) k
  of_record_at c at code i t m h k = one h

  field_by_at : (c : Context) (first at : ℕ) (i : Ident) (code : Part) (o : Operand) → Here first → Here at → Here i.at → GivesAt Here c (select_field_by c first at i code o)
  field_by_at c first at i code (ModuleName s) h k l = join (use_at Here c (Some s) i.name i.at l) none
  field_by_at c first at i code (Variable t) h k l = of_record_at c at code i t (kind_of c.scene t) k l
  field_by_at c first at i code InError h k l = none
  field_by_at c first at i code NotConstant h k l = none
  field_by_at c first at i code o h k l = one h

  pub field_at : (c : Context) (first at : ℕ) (i : Ident) (x : Coded) → Here first → Here at → Here i.at → GivesAt Here c (select_field c first at i x)
  field_at c first at i x h k l = field_by_at c first at i x.code x.operand h k l

  pointer_at : (c : Context) (at : ℕ) (code : Part) (t : Place) (m : RowMeaning) → Here at → GivesAt Here c (of_pointer c at code t m)
  pointer_at c at code t (Pointer p) h = gives_either (is_broken c.scene (target_of c.scene t)) _ _ none none
  pointer_at c at code t m h = one h

  target_by_at : (c : Context) (first at : ℕ) (code : Part) (o : Operand) → Here first → Here at → GivesAt Here c (select_target_by c first at code o)
  target_by_at c first at code (Variable t) h k = pointer_at c at code t (kind_of c.scene t) k
  target_by_at c first at code InError h k = none
  target_by_at c first at code NotConstant h k = none
  target_by_at c first at code o h k = one h

  pub target_at : (c : Context) (first at : ℕ) (x : Coded) → Here first → Here at → GivesAt Here c (select_target c first at x)
  target_at c first at x h k = target_by_at c first at x.code x.operand h k

  of_fixed_at : (c : Context) (x : Coded) (index elem : Place) (i : Coded) → GivesAt Here c (element_of_array c x index elem i)
  of_fixed_at c x index elem i = gives_either (is_bad i.operand || is_broken c.scene elem) _ _ none none

  of_open_at : (c : Context) (x : Coded) (elem : Place) (i : Coded) → GivesAt Here c (element_of_open c x elem i)
  of_open_at c x elem i = gives_either (is_bad i.operand || is_broken c.scene elem) _ _ none none

  array_at : (c : Context) (at : ℕ) (x : Coded) (i_at : ℕ) (i : Coded) (m : RowMeaning) → Here at → Here i_at → GivesAt Here c (of_array c at x i_at i m)
  array_at c at x i_at i (Array index elem s) h k =
      join (assigned_at c index i_at not_assignable i k) (of_fixed_at c x index elem (assigned_to c index i_at not_assignable i).value)
  array_at c at x i_at i (OpenArray elem) h k =
      join (assigned_at c cardinal i_at not_assignable i k) (of_open_at c x elem (assigned_to c cardinal i_at not_assignable i).value)
  array_at c at x i_at i m h k = one h

  selected_by_at : (c : Context) (first at i_at : ℕ) (i x : Coded) (o : Operand) → Here first → Here at → Here i_at → GivesAt Here c (select_element_by c first at i_at i x o)
  selected_by_at c first at i_at i x (Variable t) h k l = array_at c at x i_at i (kind_of c.scene t) k l
  selected_by_at c first at i_at i x InError h k l = none
  selected_by_at c first at i_at i x NotConstant h k l = none
  selected_by_at c first at i_at i x o h k l = one h

  pub selected_at : (c : Context) (first at i_at : ℕ) (i x : Coded) → Here first → Here at → Here i_at → GivesAt Here c (select_element c first at i_at i x)
  selected_at c first at i_at i x h k l = selected_by_at c first at i_at i x x.operand h k l

  -- ** Operators and elements of sets

  pub one_coded_at : (c : Context) (op : Operator) (op_at : ℕ) (x : Coded) → Here op_at → GivesAt Here c (one_coded c op op_at x)
  one_coded_at c op op_at x h = join (apply_at Here c op op_at x.operand h) none

  pub two_coded_at : (c : Context) (op : Operator) (op_at x_at : ℕ) (x : Coded) (y_at : ℕ) (y : Coded) → Here op_at → Here x_at → Here y_at → GivesAt Here c (two_coded c op op_at x_at x y_at y)
  two_coded_at c op op_at x_at x y_at y h k l = join (operate_at Here c op op_at x.operand x_at y.operand y_at h k l) none

  pub element_coded_at : (c : Context) (base : Place) (at : ℕ) (x : Coded) → Here at → GivesAt Here c (element_coded c base at x)
  element_coded_at c base at x h = join (element_at Here c base at x.operand h) none
