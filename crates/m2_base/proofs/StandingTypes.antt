-- The diagnostics of type expressions stand at their tokens.
use Rattle.std.specs.List.{list_any}
use Rattle.std.specs.Prelude.{ℕ, ◌+◌, Bool, true, false, if◌then◌else◌, not, is_none, nat_lt, max, ◌==◌, ◌&&◌, ◌||◌, ℤ, int_le, int_lt, pos, List, [], ◌∷◌, length, reverse, Option, Some, None}
use Rattle.m2_base.specs.Gives.{Gives}
use Rattle.m2_base.specs.Rows.{Place, RowMeaning, Const, Param, Record, Enum, Array, TypeName, Broken, alias_kind, at_place, type_name_kind}
use Rattle.m2_base.specs.Trees.{Expr, Formal, Ident, Qual, TypeExpr, type_expr, TypeForm, named_type, enum_type, sub_type, array_type, record_type, set_type, pointer_type, proc_type, TypeExprs, no_types, more_types, FieldList, plain_fields, case_fields, FieldLists, no_fields, more_fields, variant_arm, VariantArms, no_variant_arms, more_variant_arms, Label, one_label, range_label, Labels, no_labels, more_labels, expr_at, type_at}
use Rattle.m2_base.specs.Statics.Arrays.{array_rows, array_size, checked_base, checked_index, is_index_range, is_set_range}
use Rattle.m2_base.specs.Statics.CaseLabels.{LabelTest, cover, label_of, labels_of, one_taken, one_test, overlaps, range_taken, range_test, taken_label}
use Rattle.m2_base.specs.Statics.Cells.{capped, fitting, most_cells}
use Rattle.m2_base.specs.Statics.Compatible.{is_compatible}
use Rattle.m2_base.specs.Statics.Constants.{constant_of}
use Rattle.m2_base.specs.Statics.Contexts.{Context, Named, diag}
use Rattle.m2_base.specs.Statics.Diagnostics.{declared_twice}
use Rattle.m2_base.specs.Statics.Enumerations.{constant_rows}
use Rattle.m2_base.specs.Statics.Fields.{field_row, plain_rows, tag_rows, tag_type}
use Rattle.m2_base.specs.Statics.Lookup.{Entry, entry_at, first_entry}
use Rattle.m2_base.specs.Statics.Makes.{Makes, makes_named, makes_row, next_place, own_rows, with_rows}
use Rattle.m2_base.specs.Statics.Operands.{char_or_same, constant_of_operand, operand_type}
use Rattle.m2_base.specs.Statics.Operations.{is_ordinal}
use Rattle.m2_base.specs.Statics.ProcedureTypes.{formal_rows, formals_length, is_structured, open_array_row, parameter_type, result_type}
use Rattle.m2_base.specs.Statics.Ranges.{Range, is_within, range}
use Rattle.m2_base.specs.Statics.Shapes.{fields_shapes}
use Rattle.m2_base.specs.Statics.Leaves.{ArmsHave, ExprHas, FieldHas, FieldsHave, FormalsHave, LabelHas, LabelsHave, NameOptionHas, NamesHave, QualHas, QualOptionHas, TypeFormHas, TypeHas, TypesHave}
use Rattle.m2_base.specs.Statics.StandingTrees.{Stands}
use Rattle.m2_base.specs.Statics.Subranges.{Bounds, checked_bound, common_type, is_broken_base, named_base, of_bounds, of_common, of_ordinals, of_values, ordered_bounds, subrange_base, subrange_of, subrange_row, within_base}
use Rattle.m2_base.specs.Statics.Targets.{entry_target, imported_target, layout_target, target_by_layout, target_by_name, target_name, target_or}
use Rattle.m2_base.specs.Statics.TypeNames.{type_of_qual}
use Rattle.m2_base.specs.Statics.TypeParts.{is_field}
use Rattle.m2_base.specs.Statics.TypeRows.{arms_rows, field_list_rows, fields_rows, form_rows, index_rows, type_rows}
use Rattle.m2_base.specs.Statics.Types.{base_of, is_broken, range_of, size_of}
use Rattle.m2_base.specs.Statics.Uses.{followed}
use Rattle.m2_base.specs.declared.operands.Operand.TheVariants.{Computed}
use Rattle.m2_base.specs.declared.operands.Operand.{Operand}
use Rattle.m2_base.proofs.StandingConstants.{constant_at, first_token}
use Rattle.m2_base.proofs.StandingNotes.{GivesAt, MakesAt, NotesAt, gives_either, join, named_at, none, one, qual_at}

module _ (Here : ℕ → Type 0) where
  -- ** Subranges

  bound_at : (c : Context) (base : Place) (at : ℕ) (v : ℤ) → Here at → GivesAt Here c (checked_bound c base at v)
  bound_at c base at v h = gives_either (is_within (range_of c.scene base) v) _ _ none (one h)

  ordered_at : (c : Context) (at : ℕ) (low high : ℤ) (x y : Bool) → Here at → GivesAt Here c (ordered_bounds c at low high x y)
  ordered_at c at low high true true h = gives_either (int_lt high low) _ _ (one h) none
  ordered_at c at low high true false h = none
  ordered_at c at low high false y h = none

  within_base_at : (c : Context) (low_at high_at : ℕ) (low high : ℤ) (o : Option Place) → Here low_at → Here high_at → GivesAt Here c (within_base c low_at high_at low high o)
  within_base_at c low_at high_at low high None h k = one k
  within_base_at c low_at high_at low high (Some base) h k =
      let x = (checked_bound c base low_at low).value in
      let y = (checked_bound c base high_at high).value in
      join (bound_at c base low_at low h) (join (bound_at c base high_at high k) (join (ordered_at c high_at low high x y k) none))

  common_at : (c : Context) (base : Option Place) (low_at high_at : ℕ) (low high : ℤ) (o : Option Place) → Here low_at → Here high_at → GivesAt Here c (of_common c base low_at high_at low high o)
  common_at c base low_at high_at low high None h k = one k
  common_at c base low_at high_at low high (Some t) h k = within_base_at c low_at high_at low high (subrange_base c base t low) h k

  values_at : (c : Context) (base : Option Place) (low_at high_at : ℕ) (x y : Operand) (v w : Option ℤ) → Here low_at → Here high_at → GivesAt Here c (of_values c base low_at high_at x y v w)
  values_at c base low_at high_at x y (Some low) (Some high) h k =
      common_at c base low_at high_at low high (common_type (base_of c.scene (operand_type x)) (base_of c.scene (operand_type y))) h k
  values_at c base low_at high_at x y None w h k = none
  values_at c base low_at high_at x y (Some v) None h k = none

  ordinals_at : (c : Context) (base : Option Place) (low_at high_at : ℕ) (x y : Operand) → Here low_at → Here high_at → GivesAt Here c (of_ordinals c base low_at high_at x y)
  ordinals_at c base low_at high_at x y h k =
      gives_either (is_ordinal c x && is_ordinal c y) _ _ (values_at c base low_at high_at x y (constant_of_operand x) (constant_of_operand y) h k) (one k)

  bounds_at : (c : Context) (base : Option Place) (low_at high_at : ℕ) (x y : Option Operand) → Here low_at → Here high_at → GivesAt Here c (of_bounds c base low_at high_at x y)
  bounds_at c base low_at high_at (Some x) (Some y) h k =
      gives_either (is_broken_base c base) _ _ none (ordinals_at c base low_at high_at (char_or_same c.source x) (char_or_same c.source y) h k)
  bounds_at c base low_at high_at None y h k = none
  bounds_at c base low_at high_at (Some x) None h k = none

  named_base_at : (c : Context) (q : Option Qual) → QualOptionHas (Stands Here) q → GivesAt Here c (named_base c q)
  named_base_at c None h = none
  named_base_at c (Some q) h = join (qual_at Here c q h) none

  subrange_at : (c : Context) (base : Option Qual) (low high : Expr) → QualOptionHas (Stands Here) base → ExprHas (Stands Here) low → ExprHas (Stands Here) high → GivesAt Here c (subrange_of c base low high)
  subrange_at c base low high h k l =
      join (named_base_at c base h) (join (constant_at Here low c k) (join (constant_at Here high c l)
      (bounds_at c (named_base c base).value (expr_at low) (expr_at high) (constant_of c low).value (constant_of c high).value (first_token Here low k) (first_token Here high l))))

  subrange_row_at : (c : Context) (at : ℕ) (o : Option Bounds) → MakesAt Here c (subrange_row c at o)
  subrange_row_at c at (Some b) = none
  subrange_row_at c at None = none

  -- ** Arrays and sets

  fitting_at : (c : Context) (at size : ℕ) (t : Place) → Here at → GivesAt Here c (fitting c at size t)
  fitting_at c at size t h = gives_either (nat_lt most_cells size) _ _ (one h) none

  index_at : (c : Context) (at : ℕ) (t : Place) → Here at → GivesAt Here c (checked_index c at t)
  index_at c at t h = gives_either (is_broken c.scene t || is_index_range (range_of c.scene t)) _ _ none (one h)

  base_at : (c : Context) (at : ℕ) (t : Place) → Here at → GivesAt Here c (checked_base c at t)
  base_at c at t h = gives_either (is_broken c.scene t || is_set_range (range_of c.scene t)) _ _ none (one h)

  arrays_at : (last_first : List Place) (c : Context) (at : ℕ) (elem : Place) → Here at → MakesAt Here c (array_rows c at last_first elem)
  arrays_at [] c at elem h = none
  arrays_at (index ∷ outer) c at elem h =
      let size = array_size c index elem in
      let t = makes_row c at (Array index elem size) in
      let d = with_rows c t.rows in
      let u = fitting d at size t.value in
      join none (join (fitting_at d at size t.value h) (arrays_at outer (with_rows d []) at u.value h))

  -- ** Pointers

  imported_at : (c : Context) (at : ℕ) (p : Place) (m : RowMeaning) → Here at → GivesAt Here c (imported_target c at p m)
  imported_at c at p (TypeName t) h = none
  imported_at c at p Broken h = none
  imported_at c at p m h = one h

  entry_target_at : (c : Context) (at : ℕ) (e : Entry) → Here at → GivesAt Here c (entry_target c at e)
  entry_target_at c at e h = imported_at c at e.0 _ h

  layout_at : (c : Context) (at : ℕ) (x : Named) → Here at → GivesAt Here c (layout_target c at x)
  layout_at c at x h =
      let p = at_place c.scene.block.scope x.ordinal in
      gives_either (x.kind == type_name_kind) _ _ none
      (gives_either (x.kind == alias_kind) _ _ (entry_target_at c at (followed c.scene (entry_at c.scene p)) h) (one h))

  -- the target, where there is one
  abbrev TargetAt : Context → Option (Gives Place) → Type 0
  TargetAt c None = Unit {0}
  TargetAt c (Some g) = GivesAt Here c g

  by_layout_at : (c : Context) (i : Ident) (o : Option Named) → Here i.at → TargetAt c (target_by_layout c i o)
  by_layout_at c i None h = tt
  by_layout_at c i (Some x) h = layout_at c i.at x h

  by_name_at : (c : Context) (o : Option Ident) → NameOptionHas (Stands Here) o → TargetAt c (target_by_name c o)
  by_name_at c None h = tt
  by_name_at c (Some i) h = by_layout_at c i (first_entry c.layout i.name) h

  option_either : (b : Bool) (o : Option Ident) → NameOptionHas (Stands Here) o → NameOptionHas (Stands Here) (if b then o else None)
  option_either true o h = h
  option_either false o h = tt

  target_name_at : (c : Context) (t : TypeExpr) → TypeHas (Stands Here) t → NameOptionHas (Stands Here) (target_name c t)
  target_name_at c (type_expr at (named_type q)) h = option_either _ (Some q.first) h.1.first
  target_name_at c (type_expr at (enum_type idents)) h = tt
  target_name_at c (type_expr at (sub_type base low high)) h = tt
  target_name_at c (type_expr at (array_type index of)) h = tt
  target_name_at c (type_expr at (record_type fs)) h = tt
  target_name_at c (type_expr at (set_type of)) h = tt
  target_name_at c (type_expr at (pointer_type of)) h = tt
  target_name_at c (type_expr at (proc_type formals result)) h = tt

  target_or_at : (c : Context) (o : Option (Gives Place)) (m : Makes Place) → TargetAt c o → MakesAt Here c m → MakesAt Here c (target_or o m)
  target_or_at c None m h k = k
  target_or_at c (Some g) m h k = h

  -- ** Enumerations and procedure types

  constants_at : (idents : List Ident) (c : Context) (t : Place) (value : ℕ) → NamesHave (Stands Here) idents → MakesAt Here c (constant_rows c t value idents)
  constants_at [] c t value h = none
  constants_at (i ∷ idents) c t value h =
      let m = makes_named c i.name i.at (Const t (pos value) 0) in
      join (named_at Here c i.name i.at (Const t (pos value) 0) h.0) (constants_at idents (with_rows c m.rows) t (value + 1) h.1)

  pub open_array_at : (c : Context) (at : ℕ) (is_open : Bool) (t : Place) → MakesAt Here c (open_array_row c at is_open t)
  open_array_at c at true t = none
  open_array_at c at false t = none

  pub parameter_at : (c : Context) (is_open : Bool) (q : Qual) → QualHas (Stands Here) q → MakesAt Here c (parameter_type c is_open q)
  parameter_at c is_open q h = join (qual_at Here c q h) (open_array_at (with_rows c []) q.first.at is_open (type_of_qual c q).value)

  formals_at : (formals : List Formal) (c : Context) (own : ℕ) → FormalsHave (Stands Here) formals → MakesAt Here c (formal_rows c own formals)
  formals_at [] c own h = none
  formals_at (f ∷ formals) c own h =
      let typ = parameter_type c f.is_open f.of in
      let d = with_rows c typ.rows in
      let p = makes_row d f.of.first.at (Param typ.value f.by_ref own) in
      join (parameter_at c f.is_open f.of h.0) (join none (formals_at formals (with_rows d p.rows) own h.1))

  pub result_at : (c : Context) (q : Option Qual) → QualOptionHas (Stands Here) q → GivesAt Here c (result_type c q)
  result_at c None h = none
  result_at c (Some q) h = join (qual_at Here c q h) (gives_either (is_structured c (type_of_qual c q).value) _ _ (one h.first) none)

  -- ** Labels

  cover_at : (c : Context) (at : ℕ) (test : LabelTest) (r : Range) (covered : List Range) → Here at → GivesAt Here c (cover c at test r covered)
  cover_at c at test r covered h =
      gives_either (int_le r.low r.high) _ _ (gives_either (list_any (overlaps r) covered) _ _ (one h) none) none

  one_test_at : (c : Context) (at : ℕ) (o : Option ℤ) (covered : List Range) → Here at → GivesAt Here c (one_test c at o covered)
  one_test_at c at (Some v) covered h = cover_at c at (record { low = v; high = None }) (range v v) covered h
  one_test_at c at None covered h = none

  range_test_at : (c : Context) (at : ℕ) (o p : Option ℤ) (covered : List Range) → Here at → GivesAt Here c (range_test c at o p covered)
  range_test_at c at (Some v) (Some w) covered h = cover_at c at (record { low = v; high = Some w }) (range v w) covered h
  range_test_at c at None p covered h = none
  range_test_at c at (Some v) None covered h = none

  one_taken_at : (c : Context) (at : ℕ) (t : Place) (covered : List Range) (o : Option Operand) → Here at → GivesAt Here c (one_taken c at t covered o)
  one_taken_at c at t covered None h = none
  one_taken_at c at t covered (Some x) h =
      gives_either (is_broken c.scene t) _ _ none
      (gives_either (is_compatible c.scene x (Computed t)) _ _ (one_test_at c at (constant_of_operand (taken_label c t x)) covered h) (one h))

  range_taken_at : (c : Context) (at : ℕ) (t : Place) (covered : List Range) (o p : Option Operand) → Here at → GivesAt Here c (range_taken c at t covered o p)
  range_taken_at c at t covered (Some x) (Some y) h =
      gives_either (is_broken c.scene t) _ _ none
      (gives_either (is_compatible c.scene x (Computed t) && is_compatible c.scene y (Computed t)) _ _
      (range_test_at c at (constant_of_operand (taken_label c t x)) (constant_of_operand (taken_label c t y)) covered h) (one h))
  range_taken_at c at t covered None p h = none
  range_taken_at c at t covered (Some x) None h = none

  label_at : (c : Context) (t : Place) (covered : List Range) (l : Label) → LabelHas (Stands Here) l → GivesAt Here c (label_of c t covered l)
  label_at c t covered (one_label e) h = join (constant_at Here e c h) (one_taken_at c (expr_at e) t covered (constant_of c e).value (first_token Here e h))
  label_at c t covered (range_label low high) h =
      join (constant_at Here low c h.0) (join (constant_at Here high c h.1)
      (range_taken_at c (expr_at low) t covered (constant_of c low).value (constant_of c high).value (first_token Here low h.0)))

  pub labels_at : (ls : Labels) (c : Context) (t : Place) (covered : List Range) → LabelsHave (Stands Here) ls → GivesAt Here c (labels_of c t covered ls)
  labels_at no_labels c t covered h = none
  labels_at (more_labels l ls) c t covered h =
      join (label_at c t covered l h.0) (join (labels_at ls c t (label_of c t covered l).value.covered h.1) none)

  -- ** Fields

  twice_at : (b : Bool) (c : Context) (i : Ident) → Here i.at → NotesAt Here c (if b then diag c i.at declared_twice ∷ [] else [])
  twice_at true c i h = one h
  twice_at false c i h = none

  field_at : (c : Context) (own : ℕ) (i : Ident) (t : Place) (offset : ℕ) → Here i.at → MakesAt Here c (field_row c own i t offset)
  field_at c own i t offset h = twice_at (list_any (is_field own i.name) (own_rows c)) c i h

  plain_at : (idents : List Ident) (c : Context) (own : ℕ) (t : Place) (offset : ℕ) → NamesHave (Stands Here) idents → MakesAt Here c (plain_rows c own t offset idents)
  plain_at [] c own t offset h = none
  plain_at (i ∷ idents) c own t offset h =
      let d = with_rows c (field_row c own i t offset).rows in
      join (field_at c own i t offset h.0) (plain_at idents d own t (capped (offset + size_of d.scene t)) h.1)

  tag_type_at : (c : Context) (q : Qual) → QualHas (Stands Here) q → GivesAt Here c (tag_type c q)
  tag_type_at c q h =
      let t = (type_of_qual c q).value in
      join (qual_at Here c q h) (gives_either (not (is_broken c.scene t) && is_none (range_of c.scene t)) _ _ (one h.first) none)

  tag_at : (c : Context) (own offset : ℕ) (t : Place) (tag : Option Ident) → NameOptionHas (Stands Here) tag → MakesAt Here c (tag_rows c own offset t tag)
  tag_at c own offset t None h = none
  tag_at c own offset t (Some i) h = join (field_at c own i t offset h) none

  type_first : (t : TypeExpr) → TypeHas (Stands Here) t → Here (type_at t)
  type_first (type_expr at form) h = h.0

  -- ** Types

  mutual
    pub type_rows_at : (t : TypeExpr) (c : Context) → TypeHas (Stands Here) t → MakesAt Here c (type_rows c t)
    type_rows_at (type_expr at form) c h = form_at form c at h.0 h.1

    form_at : (form : TypeForm) (c : Context) (at : ℕ) → Here at → TypeFormHas (Stands Here) form → MakesAt Here c (form_rows c at form)
    form_at (named_type q) c at k h = qual_at Here c q h
    form_at (enum_type idents) c at k h =
        let m = makes_row c at (Enum (length idents)) in
        join none (constants_at idents (with_rows c m.rows) m.value 0 h)
    form_at (sub_type base low high) c at k h =
        join (subrange_at c base low high h.0 h.1 h.2) (subrange_row_at (with_rows c []) at (subrange_of c base low high).value)
    form_at (array_type index of) c at k h =
        let m = index_rows c index in
        let d = with_rows c m.rows in
        let t = type_rows d of in
        join (indexes_at index c h.0) (join (type_rows_at of d h.1) (arrays_at (reverse m.value) (with_rows d t.rows) at t.value k))
    form_at (record_type fields) c at k h =
        let first = (next_place c).ordinal in
        let own = first + length (fields_shapes fields) in
        let m = fields_rows c own 0 fields in
        let d = with_rows c m.rows in
        let r = makes_row d at (Record first (max 1 m.value)) in
        join (fields_at fields c own 0 h) (join none (fitting_at (with_rows d r.rows) at (max 1 m.value) r.value k))
    form_at (set_type of) c at k h =
        let m = type_rows c of in
        join (type_rows_at of c h) (join (base_at (with_rows c m.rows) (type_at of) m.value (type_first of h)) none)
    form_at (pointer_type of) c at k h =
        join (target_or_at c (target_by_name c (target_name c of)) (type_rows c of) (by_name_at c (target_name c of) (target_name_at c of h)) (type_rows_at of c h)) none
    form_at (proc_type formals result) c at k h =
        let own = (next_place c).ordinal + formals_length formals in
        let d = with_rows c (formal_rows c own formals).rows in
        join (formals_at formals c own h.0) (join (result_at d result h.1) none)

    indexes_at : (ts : TypeExprs) (c : Context) → TypesHave (Stands Here) ts → MakesAt Here c (index_rows c ts)
    indexes_at no_types c h = none
    indexes_at (more_types t ts) c h =
        let m = type_rows c t in
        let d = with_rows c m.rows in
        join (type_rows_at t c h.0) (join (index_at d (type_at t) m.value (type_first t h.0)) (join (indexes_at ts (with_rows d []) h.1) none))

    fields_at : (fs : FieldLists) (c : Context) (own offset : ℕ) → FieldsHave (Stands Here) fs → MakesAt Here c (fields_rows c own offset fs)
    fields_at no_fields c own offset h = none
    fields_at (more_fields f fs) c own offset h =
        let m = field_list_rows c own offset f in
        join (field_list_at f c own offset h.0) (fields_at fs (with_rows c m.rows) own m.value h.1)

    field_list_at : (f : FieldList) (c : Context) (own offset : ℕ) → FieldHas (Stands Here) f → MakesAt Here c (field_list_rows c own offset f)
    field_list_at (plain_fields idents typ) c own offset h =
        let m = type_rows c typ in
        join (type_rows_at typ c h.1) (plain_at idents (with_rows c m.rows) own m.value offset h.0)
    field_list_at (case_fields tag of arms other) c own offset h =
        let t = (tag_type c of).value in
        let d = with_rows c [] in
        let g = tag_rows d own offset t tag in
        let e = with_rows d g.rows in
        let a = arms_rows e own g.value t [] g.value arms in
        join (tag_type_at c of h.1) (join (tag_at d own offset t tag h.0)
        (join (arms_at arms e own g.value t [] g.value h.2) (join (fields_at other (with_rows e a.rows) own g.value h.3) none)))

    arms_at : (arms : VariantArms) (c : Context) (own offset : ℕ) (t : Place) (covered : List Range) (end : ℕ) → ArmsHave (Stands Here) arms → MakesAt Here c (arms_rows c own offset t covered end arms)
    arms_at no_variant_arms c own offset t covered end h = none
    arms_at (more_variant_arms (variant_arm labels fields) arms) c own offset t covered end h =
        let ls = (labels_of c t covered labels).value in
        let d = with_rows c [] in
        let m = fields_rows d own offset fields in
        join (labels_at labels c t covered h.0.0)
        (join (fields_at fields d own offset h.0.1) (arms_at arms (with_rows d m.rows) own offset t ls.covered (max end m.value) h.1))
