-- What values, operators, sets, elements and names with their code stand for isn't in error, unless a diagnostic was noted.
use Rattle.std.specs.Prelude.{◌≡◌, ◌≢◌, ℕ, suc, ◌==◌, ◌&&◌, ◌||◌, Bool, true, false, List, [], ◌∷◌, Option, Some, None}
use Rattle.std.proofs.Common.{ap, refl}
use Rattle.std.proofs.lemmas.Bool.{or_from}
use Rattle.m2_base.specs.Lists.{WhereKept}
use Rattle.m2_base.specs.Rows.{row_meaning}
use Rattle.m2_base.specs.Standard.{cardinal}
use Rattle.m2_base.specs.declared.rows.Place.{Place}
use Rattle.m2_base.specs.declared.rows.Row.{Row}
use Rattle.m2_base.specs.declared.rows.RowMeaning.{RowMeaning}
use Rattle.m2_base.specs.declared.rows.RowMeaning.TheVariants.{Array, Field, OpenArray, Pointer, Record, Var}
use Rattle.m2_base.specs.declared.trees.Ident.{Ident}
use Rattle.m2_base.specs.declared.trees.operators.Operator.{Operator}
use Rattle.m2_base.specs.Statics.Assignable.{is_assignable, taken_into}
use Rattle.m2_base.specs.Statics.Contexts.{Block, Context, Scene, level_of}
use Rattle.m2_base.specs.Statics.Diagnostics.{not_assignable}
use Rattle.m2_base.specs.Statics.Lookup.{Entry}
use Rattle.m2_base.specs.Statics.NamedOperands.{operand_of}
use Rattle.m2_base.specs.Statics.Operands.{is_bad, is_string, operand_type}
use Rattle.m2_base.specs.Statics.Ranges.{Range, is_within}
use Rattle.m2_base.specs.Statics.TypeParts.{field_of, target_of}
use Rattle.m2_base.specs.Statics.Types.{is_broken, kind_of, range_of}
use Rattle.m2_base.specs.declared.operands.Operand.{Operand}
use Rattle.m2_base.specs.declared.operands.Operand.TheVariants.{Computed, Constant, InError, ModuleName, NamedType, NotConstant, Procedure, StandardProcedure, Variable}
use Rattle.block_code.proofs.Noted.{UnlessNoted, and_gives, by_test, given, in_turn, noted, otherwise}
use Rattle.block_code.proofs.WholeNames.{IsBound, the_second, use-whole}
use Rattle.block_code.proofs.WholeOperands.{IsResult, IsSet, apply_one-result, element_of-whole, not_bad, operate-result, set_from, taken_beside-whole, with_elements-set}
use Rattle.block_code.proofs.WholeRows.{IsWhole, IsWholeField, cardinal-whole, field-whole, kind-whole, target-whole}
use Rattle.block_code.specs.Coded.{Coded, in_error, taken, value_code, with_char}
use Rattle.block_code.specs.Elements.{element_of_array, element_of_open, of_array, of_pointer, select_element, select_element_by, select_target, select_target_by}
use Rattle.block_code.specs.Operators.{made, one_coded, one_instr, operation_code, two_coded}
use Rattle.block_code.specs.Parts.{Part, plain, with_record, ◌⨟◌}
use Rattle.block_code.specs.RecordFields.{field_by, field_or, field_or_use, found_field, name_coded, of_record, select_field, select_field_by, with_field}
use Rattle.block_code.specs.SetElements.{Elements, add_element, add_range, element_as, element_coded, set_by, set_coded}
use Rattle.block_code.specs.StandardProcedures.{is_pointer_type}
use Rattle.block_code.specs.Values.{as_value, as_value_by, assigned_to, has_broken_part, in_range, in_range_by, is_passed_over}
use Rattle.block_code.specs.Variables.{entry_coded, with_address}
use Rattle.block_code.specs.Whole.{AreWhole, HasWholeParts, IsWholeType}

-- what stands for something that isn't in error
abbrev pub Stands : Scene → Coded → Type 0
Stands scene x = IsWhole scene x.operand

pub made-stands : (scene : Scene) (r : Operand) (code : Part) → IsResult r → Stands scene (made r code)
made-stands scene (Computed t) code h = tt
made-stands scene (Constant t v) code h = tt
made-stands scene r code h = absurd h

-- the elements so far aren't in error
abbrev pub AreElements : Elements → Type 0
AreElements es = IsSet es.set

set_by-stands : (scene : Scene) (t : Place) (code : Part) (o : Operand) → IsSet o → Stands scene (set_by t code o)
set_by-stands scene t code (Constant u s) h = tt
set_by-stands scene t code InError h = absurd h
set_by-stands scene t code o h = tt

pub set-stands : (scene : Scene) (t : Place) (es : Elements) → AreElements es → Stands scene (set_coded t es)
set-stands scene t es h = set_by-stands scene t es.code es.set h

pub add_element-set : (c : Context) (es : Elements) (x : Coded) → AreElements es → Stands c.scene x → AreElements (add_element c es x)
add_element-set c es x h k =
    let e = set_from c.scene x.operand k in
    with_elements-set es.set x.operand x.operand h e e

pub add_range-set : (c : Context) (es : Elements) (x y : Coded) → AreElements es → Stands c.scene x → Stands c.scene y → AreElements (add_range c es x y)
add_range-set c es x y h k l = with_elements-set es.set x.operand y.operand h (set_from c.scene x.operand k) (set_from c.scene y.operand l)

element_as-stands : (scene : Scene) (x : Coded) (o : Operand) → IsWhole scene o → Stands scene (element_as x o)
element_as-stands scene x InError h = absurd h
element_as-stands scene x o h = h

with_address-stands : (scene : Scene) (b : Block) (s : ℕ) (m : RowMeaning) (o : Operand) → IsWhole scene o → Stands scene (with_address b s m o)
with_address-stands scene b s (Var t mode offset) (Variable u) h = tt
with_address-stands scene b s m o h = h

field_by-stands : (scene : Scene) (code : Part) (m : RowMeaning) → IsWholeField scene m → Stands scene (field_by scene code m)
field_by-stands scene code (Field t offset own name) h = the_second (Stands scene) (is_broken scene t) in_error _ h tt
field_by-stands scene code m h = absurd h

-- no part of an array is in error
no_broken_part : (scene : Scene) (m : RowMeaning) → HasWholeParts scene m → has_broken_part scene m ≡ false
no_broken_part scene (Array i t s) h = or_from (is_broken scene i) (is_broken scene t) h.0 h.1
no_broken_part scene m h = refl

and_fails : (a b : Bool) → b ≡ false → (a && b) ≡ false
and_fails true b e = e
and_fails false b e = refl

module _ (c : Context) where
  -- ---- values

  as_value_by-stands : (at : ℕ) (x : Coded) (o : Operand) → Stands c.scene x → UnlessNoted (Stands c.scene) (as_value_by c at x o)
  as_value_by-stands at x (NamedType t) h = noted
  as_value_by-stands at x (ModuleName s) h = noted
  as_value_by-stands at x (StandardProcedure n) h = noted
  as_value_by-stands at x (Procedure n t k s) h = by_test (level_of c.scene.block t.scope == 0) (λ e. given h) (λ e. noted)
  as_value_by-stands at x o h = given h

  pub as_value-stands : (at : ℕ) (x : Coded) → Stands c.scene x → UnlessNoted (Stands c.scene) (as_value c at x)
  as_value-stands at x h = as_value_by-stands at x x.operand h

  range_by-stands : (at : ℕ) (r : Option Range) (x : Coded) (o : Operand) → Stands c.scene x → UnlessNoted (Stands c.scene) (in_range_by c at r x o)
  range_by-stands at r x (Constant t v) h = by_test (is_within r v) (λ e. given h) (λ e. noted)
  range_by-stands at r x o h = given h

  pub in_range-stands : (at : ℕ) (to : Place) (x : Coded) → Stands c.scene x → UnlessNoted (Stands c.scene) (in_range c at to x)
  in_range-stands at to x h = range_by-stands at (range_of c.scene to) x x.operand h

  -- a value that isn't in error, for a type that isn't, isn't passed over
  not_passed_over : (rows : AreWhole c.scene) (to : Place) (o : Operand) → IsWholeType c.scene to → IsWhole c.scene o → is_passed_over c.scene to o ≡ false
  not_passed_over rows to o w h =
      or_from (is_bad o || is_broken c.scene to) (is_string o && has_broken_part c.scene (kind_of c.scene to))
      (or_from (is_bad o) (is_broken c.scene to) (not_bad c.scene o h) w)
      (and_fails (is_string o) (has_broken_part c.scene (kind_of c.scene to)) (no_broken_part c.scene (kind_of c.scene to) (kind-whole c.scene rows to)))

  pub assigned-stands : (rows : AreWhole c.scene) (to : Place) (at code : ℕ) (x : Coded) → IsWholeType c.scene to → Stands c.scene x
      → UnlessNoted (Stands c.scene) (assigned_to c to at code x)
  assigned-stands rows to at code x w h =
      otherwise (is_passed_over c.scene to x.operand) _ (not_passed_over rows to x.operand w h)
      (by_test (is_assignable c.scene to x.operand)
      (λ e. in_range-stands at to (taken (taken_into c.source c.scene to x.operand) x) (taken_beside-whole c.source c.scene x.operand (Computed to) h))
      (λ e. noted))

  -- ---- operators and sets

  pub one-stands : (op : Operator) (op_at : ℕ) (x : Coded) → Stands c.scene x → UnlessNoted (Stands c.scene) (one_coded c op op_at x)
  one-stands op op_at x h = and_gives (λ r. made r (value_code c x ⨟ plain (one_instr op))) (apply_one-result c op op_at x.operand h) (λ r k. made-stands c.scene r _ k)

  pub two-stands : (rows : AreWhole c.scene) (op : Operator) (op_at x_at : ℕ) (x : Coded) (y_at : ℕ) (y : Coded) → Stands c.scene x → Stands c.scene y
      → UnlessNoted (Stands c.scene) (two_coded c op op_at x_at x y_at y)
  two-stands rows op op_at x_at x y_at y h k =
      and_gives (λ r. made r (operation_code c.scene op (operand_type r) (operand_type y.operand) (value_code c (with_char c x)) (value_code c (with_char c y))))
      (operate-result c rows op op_at x.operand x_at y.operand y_at h k) (λ r l. made-stands c.scene r _ l)

  pub element-stands : (base : Place) (at : ℕ) (x : Coded) → IsWholeType c.scene base → Stands c.scene x → UnlessNoted (Stands c.scene) (element_coded c base at x)
  element-stands base at x w h = and_gives (element_as x) (element_of-whole c base at x.operand w h) (element_as-stands c.scene x)

  module _ (rows : AreWhole c.scene) where
    -- ---- what a pointer points to

    pointer_by : (at : ℕ) (code : Part) (t : Place) (m : RowMeaning) → kind_of c.scene t ≡ m → UnlessNoted (Stands c.scene) (of_pointer c at code t m)
    pointer_by at code t (Pointer p) e =
        otherwise (is_broken c.scene (target_of c.scene t)) _ (target-whole c.scene rows t (ap is_pointer_type e)) (given tt)
    pointer_by at code t m e = noted

    target_by-stands : (first at : ℕ) (code : Part) (o : Operand) → IsWhole c.scene o → UnlessNoted (Stands c.scene) (select_target_by c first at code o)
    target_by-stands first at code (Variable t) h = pointer_by at code t (kind_of c.scene t) refl
    target_by-stands first at code InError h = absurd h
    target_by-stands first at code NotConstant h = absurd h
    target_by-stands first at code o h = noted

    pub target-stands : (first at : ℕ) (x : Coded) → Stands c.scene x → UnlessNoted (Stands c.scene) (select_target c first at x)
    target-stands first at x h = target_by-stands first at x.code x.operand h

    -- ---- elements

    array-stands : (x : Coded) (index elem : Place) (i : Coded) → IsWholeType c.scene elem → Stands c.scene i → UnlessNoted (Stands c.scene) (element_of_array c x index elem i)
    array-stands x index elem i w h =
        otherwise (is_bad i.operand || is_broken c.scene elem) _ (or_from (is_bad i.operand) (is_broken c.scene elem) (not_bad c.scene i.operand h) w) (given tt)

    open-stands : (x : Coded) (elem : Place) (i : Coded) → IsWholeType c.scene elem → Stands c.scene i → UnlessNoted (Stands c.scene) (element_of_open c x elem i)
    open-stands x elem i w h =
        otherwise (is_bad i.operand || is_broken c.scene elem) _ (or_from (is_bad i.operand) (is_broken c.scene elem) (not_bad c.scene i.operand h) w) (given tt)

    of_array-stands : (at : ℕ) (x : Coded) (i_at : ℕ) (i : Coded) (m : RowMeaning) → HasWholeParts c.scene m → Stands c.scene i
        → UnlessNoted (Stands c.scene) (of_array c at x i_at i m)
    of_array-stands at x i_at i (Array index elem size) w h =
        in_turn (assigned-stands rows index i_at not_assignable i w.0 h) (λ v k. array-stands x index elem v w.1 k)
    of_array-stands at x i_at i (OpenArray elem) w h =
        in_turn (assigned-stands rows cardinal i_at not_assignable i (cardinal-whole c.scene rows) h) (λ v k. open-stands x elem v w k)
    of_array-stands at x i_at i m w h = noted

    element_by-stands : (first at i_at : ℕ) (i x : Coded) (o : Operand) → Stands c.scene i → IsWhole c.scene o → UnlessNoted (Stands c.scene) (select_element_by c first at i_at i x o)
    element_by-stands first at i_at i x (Variable t) h k = of_array-stands at x i_at i (kind_of c.scene t) (kind-whole c.scene rows t) h
    element_by-stands first at i_at i x InError h k = absurd k
    element_by-stands first at i_at i x NotConstant h k = absurd k
    element_by-stands first at i_at i x o h k = noted

    pub select_element-stands : (first at i_at : ℕ) (i x : Coded) → Stands c.scene i → Stands c.scene x → UnlessNoted (Stands c.scene) (select_element c first at i_at i x)
    select_element-stands first at i_at i x h k = element_by-stands first at i_at i x x.operand h k

    -- ---- names and fields

    entry-stands : (e : Option Entry) → IsBound c.scene e → Stands c.scene (entry_coded c e)
    entry-stands None h = absurd h
    entry-stands (Some e) h = with_address-stands c.scene c.scene.block e.0.scope (row_meaning e.1) (operand_of c.scene e) h

    field_or-stands : (k : ℕ) (f : Option Row) (outer : Option Coded) → WhereKept f (λ r. IsWholeField c.scene (row_meaning r)) → WhereKept outer (Stands c.scene)
        → WhereKept (field_or c.scene k f outer) (Stands c.scene)
    field_or-stands k None outer h l = l
    field_or-stands k (Some f) outer h l = field_by-stands c.scene (with_record k) (row_meaning f) h

    with_field-stands : (k : ℕ) (withs : List Place) (name : ℕ) → WhereKept (with_field c.scene k withs name) (Stands c.scene)
    with_field-stands k [] name = tt
    with_field-stands k (t ∷ ts) name =
        field_or-stands k (field_of c.scene t name) (with_field c.scene (suc k) ts name) (field-whole c.scene rows t name) (with_field-stands (suc k) ts name)

    field_or_use-stands : (i : Ident) (o : Option Coded) → i.name ≢ 0 → WhereKept o (Stands c.scene) → UnlessNoted (Stands c.scene) (field_or_use c i o)
    field_or_use-stands i None n h = and_gives (entry_coded c) (use-whole c rows None i.name i.at n) entry-stands
    field_or_use-stands i (Some x) n h = given h

    pub name-stands : (withs : List Place) (i : Ident) → i.name ≢ 0 → UnlessNoted (Stands c.scene) (name_coded c withs i)
    name-stands withs i n = field_or_use-stands i (with_field c.scene 0 withs i.name) n (with_field-stands 0 withs i.name)

    found_field-stands : (code : Part) (i : Ident) (o : Option Row) → WhereKept o (λ r. IsWholeField c.scene (row_meaning r)) → UnlessNoted (Stands c.scene) (found_field c code i o)
    found_field-stands code i None h = noted
    found_field-stands code i (Some f) h = given (field_by-stands c.scene code (row_meaning f) h)

    of_record-stands : (at : ℕ) (code : Part) (i : Ident) (t : Place) (m : RowMeaning) → UnlessNoted (Stands c.scene) (of_record c at code i t m)
    of_record-stands at code i t (Record f s) = found_field-stands code i (field_of c.scene t i.name) (field-whole c.scene rows t i.name)
    of_record-stands at code i t m = noted

    field_selected-stands : (first at : ℕ) (i : Ident) (code : Part) (o : Operand) → i.name ≢ 0 → IsWhole c.scene o → UnlessNoted (Stands c.scene) (select_field_by c first at i code o)
    field_selected-stands first at i code (ModuleName s) n h = and_gives (entry_coded c) (use-whole c rows (Some s) i.name i.at n) entry-stands
    field_selected-stands first at i code (Variable t) n h = of_record-stands at code i t (kind_of c.scene t)
    field_selected-stands first at i code InError n h = absurd h
    field_selected-stands first at i code NotConstant n h = absurd h
    field_selected-stands first at i code o n h = noted

    pub select_field-stands : (first at : ℕ) (i : Ident) (x : Coded) → i.name ≢ 0 → Stands c.scene x → UnlessNoted (Stands c.scene) (select_field c first at i x)
    select_field-stands first at i x n h = field_selected-stands first at i x.code x.operand n h
