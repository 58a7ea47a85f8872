-- The rows that a declaration makes are those of its shapes: as many, of the same kinds and tokens, and with the same
-- names or none.
use Rattle.m2_base.specs.Statics.ShapedRows.{IsShaped, AreShaped, none_of, more_of}
use Rattle.std.specs.Prelude.{◌≡◌, refl, ℕ, suc, ◌+◌, Bool, true, false, if◌then◌else◌, List, [], ◌∷◌, ◌++◌, map, flat_map, length, pos, Option, Some, None}
use Rattle.std.proofs.Common.{ap, ◌∙◌, inl, inr, arith}
use Rattle.std.proofs.lemmas.List.{length-reverse}
use Rattle.m2_base.specs.Gives.{Gives}
use Rattle.m2_base.specs.Rows.{Row, Place, row_of, RowMeaning, Const, const_kind, field_kind, param_kind, open_array_kind, array_kind, subrange_kind, enum_kind, record_kind, set_kind, pointer_kind, proc_type_kind}
use Rattle.m2_base.specs.Standard.{is_standard}
use Rattle.m2_base.specs.Statics.Arrays.{array_rows}
use Rattle.m2_base.specs.Statics.Contexts.{Context}
use Rattle.m2_base.specs.Statics.Enumerations.{constant_rows}
use Rattle.m2_base.specs.Statics.Fields.{field_row, plain_rows, tag_type, tag_rows}
use Rattle.m2_base.specs.Statics.Lookup.{has_name}
use Rattle.m2_base.specs.Statics.Makes.{Makes, with_rows, makes_named}
use Rattle.m2_base.specs.Statics.ProcedureTypes.{open_array_row, formal_rows}
use Rattle.m2_base.specs.Statics.Ranges.{Range}
use Rattle.m2_base.specs.Statics.Shapes.{Shape, nameless, named, open_shapes, formal_shapes, tag_shapes, array_shapes, type_shapes, form_shapes, types_shapes, fields_shapes, field_shapes, arms_shapes}
use Rattle.m2_base.specs.Statics.Subranges.{Bounds, subrange_row, subrange_of}
use Rattle.m2_base.specs.Statics.Targets.{target_name, target_by_name, target_or}
use Rattle.m2_base.specs.Statics.TypeNames.{type_of_qual}
use Rattle.m2_base.specs.Statics.TypeRows.{type_rows, form_rows, index_rows, fields_rows, field_list_rows, arms_rows}
use Rattle.m2_base.specs.Trees.{Ident, Qual, Formal, TypeExpr, type_expr, TypeForm, named_type, enum_type, sub_type, array_type, record_type, set_type, pointer_type, proc_type, TypeExprs, no_types, more_types, FieldList, plain_fields, case_fields, FieldLists, no_fields, more_fields, variant_arm, VariantArms, no_variant_arms, more_variant_arms}

pub AreShaped-append : {ss ss' : List Shape} {rs rs' : List Row} → AreShaped ss rs → AreShaped ss' rs' → AreShaped (ss ++ ss') (rs ++ rs')
AreShaped-append none_of k = k
AreShaped-append (more_of i h) k = more_of i (AreShaped-append h k)

pub AreShaped-end : {ss : List Shape} {rs : List Row} → AreShaped ss rs → AreShaped ss (rs ++ [])
AreShaped-end none_of = none_of
AreShaped-end (more_of i h) = more_of i (AreShaped-end h)

pub one_of : {s : Shape} {r : Row} → IsShaped s r → AreShaped (s ∷ []) (r ∷ [])
one_of i = more_of i none_of

-- a row without a name
pub plain_of : (k at : ℕ) (r : Row) → r.kind ≡ k → r.at ≡ at → r.name ≡ 0 → AreShaped (nameless k at ∷ []) (r ∷ [])
plain_of k at r h0 h1 h2 = one_of (record { kind = h0; at = h1; name = inr h2 })

-- of three rows the one that two tests choose
chosen : (P : Makes Place → Type 0) (a b : Bool) (x y z : Makes Place) → P x → P y → P z → P (if a then x else if b then y else z)
chosen P true b x y z p q r = p
chosen P false true x y z p q r = q
chosen P false false x y z p q r = r

pub named_of : (c : Context) (k : ℕ) (i : Ident) (m : RowMeaning) → (row_of i.name i.at m).kind ≡ k → (row_of 0 i.at m).kind ≡ k
    → (row_of i.name i.at m).at ≡ i.at → (row_of 0 i.at m).at ≡ i.at → (row_of i.name i.at m).name ≡ i.name → (row_of 0 i.at m).name ≡ 0
    → AreShaped (named k i ∷ []) (makes_named c i.name i.at m).rows
named_of c k i m h0 h1 h2 h3 h4 h5 =
    let nameless_row : AreShaped (named k i ∷ []) (row_of 0 i.at m ∷ []) = one_of (record { kind = h1; at = h3; name = inr h5 }) in
    chosen (λ x. AreShaped (named k i ∷ []) x.rows) (is_standard i.name) (has_name c.scene.tables c.scene.block.scope i.name)
    _ _ _ nameless_row nameless_row (one_of (record { kind = h0; at = h2; name = inl h4 }))

pub constants_of : (names : List Ident) (c : Context) (t : Place) (n : ℕ) → AreShaped (map (named const_kind) names) (constant_rows c t n names).rows
constants_of [] c t n = none_of
constants_of (i ∷ names) c t n =
    AreShaped-append (named_of c const_kind i (Const t (pos n) 0) refl refl refl refl refl refl) (constants_of names _ t (n + 1))

subrange_row_of : (c : Context) (at : ℕ) (b : Option Bounds) → AreShaped (nameless subrange_kind at ∷ []) (subrange_row c at b).rows
subrange_row_of c at None = plain_of subrange_kind at _ refl refl refl
subrange_row_of c at (Some b) = plain_of subrange_kind at _ refl refl refl

abbrev count : TypeExprs → ℕ
count no_types = 0
count (more_types t ts) = suc (count ts)

arrays_of : (ts : TypeExprs) (is : List Place) (c : Context) (at : ℕ) (elem : Place) → length is ≡ count ts → AreShaped (array_shapes at ts) (array_rows c at is elem).rows
arrays_of no_types [] c at elem h = none_of
arrays_of (more_types t ts) (i ∷ is) c at elem h =
    AreShaped-append (plain_of array_kind at _ refl refl refl) (arrays_of ts is _ at _ (omega (arith, h)))
arrays_of no_types (i ∷ is) c at elem h = absurd (omega (arith, h))
arrays_of (more_types t ts) [] c at elem h = absurd (omega (arith, h))

-- a target by its name makes no rows, and a name alone makes none either
named_target_of : (g : Option (Gives Place)) (m : Makes Place) → AreShaped [] m.rows → AreShaped [] (target_or g m).rows
named_target_of None m h = h
named_target_of (Some g) m h = none_of

target_of_form : (c : Context) (of : TypeExpr) → AreShaped (type_shapes of) (type_rows c of).rows
    → AreShaped (type_shapes of) (target_or (target_by_name c (target_name c of)) (type_rows c of)).rows
target_of_form c (type_expr at (named_type q)) h = named_target_of (target_by_name c (target_name c (type_expr at (named_type q)))) _ h
target_of_form c (type_expr at (enum_type names)) h = h
target_of_form c (type_expr at (sub_type base low high)) h = h
target_of_form c (type_expr at (array_type index of)) h = h
target_of_form c (type_expr at (record_type fs)) h = h
target_of_form c (type_expr at (set_type of)) h = h
target_of_form c (type_expr at (pointer_type of)) h = h
target_of_form c (type_expr at (proc_type formals result)) h = h

pub open_of : (c : Context) (is_open : Bool) (q : Qual) (t : Place) → AreShaped (open_shapes is_open q) (open_array_row c q.first.at is_open t).rows
open_of c true q t = plain_of open_array_kind q.first.at _ refl refl refl
open_of c false q t = none_of

-- two shapes lists and a third, with the rows bracketed from the right
pub AreShaped-append3 : {ss ss' ss'' : List Shape} {rs rs' rs'' : List Row} → AreShaped ss rs → AreShaped ss' rs' → AreShaped ss'' rs'' → AreShaped ((ss ++ ss') ++ ss'') (rs ++ (rs' ++ rs''))
AreShaped-append3 none_of k l = AreShaped-append k l
AreShaped-append3 (more_of i h) k l = more_of i (AreShaped-append3 h k l)

pub formals_of : (formals : List Formal) (c : Context) (own : ℕ) → AreShaped (flat_map formal_shapes formals) (formal_rows c own formals).rows
formals_of [] c own = none_of
formals_of (f ∷ formals) c own =
    AreShaped-append3 (open_of (with_rows c []) f.is_open f.of (type_of_qual c f.of).value) (plain_of param_kind f.of.first.at _ refl refl refl) (formals_of formals _ own)

-- a field, with a diagnostic or without
field_of_shape : (c : Context) (own : ℕ) (i : Ident) (t : Place) (offset : ℕ) → AreShaped (nameless field_kind i.at ∷ []) (field_row c own i t offset).rows
field_of_shape c own i t offset = plain_of field_kind i.at _ refl refl refl

plain_fields_of : (names : List Ident) (c : Context) (own : ℕ) (t : Place) (offset : ℕ) → AreShaped (map (λ i. nameless field_kind i.at) names) (plain_rows c own t offset names).rows
plain_fields_of [] c own t offset = none_of
plain_fields_of (i ∷ names) c own t offset = AreShaped-append (field_of_shape c own i t offset) (plain_fields_of names _ own t _)

tag_of : (tag : Option Ident) (c : Context) (own offset : ℕ) (t : Place) → AreShaped (tag_shapes tag) (tag_rows c own offset t tag).rows
tag_of None c own offset t = none_of
tag_of (Some i) c own offset t = AreShaped-append (field_of_shape c own i t offset) none_of

index_count : (ts : TypeExprs) (c : Context) → length (index_rows c ts).value ≡ count ts
index_count no_types c = refl
index_count (more_types t ts) c = ap suc (index_count ts (with_rows (with_rows c (type_rows c t).rows) []))

mutual
  pub type_of : (t : TypeExpr) (c : Context) → AreShaped (type_shapes t) (type_rows c t).rows
  type_of (type_expr at form) c = form_of form c at

  form_of : (form : TypeForm) (c : Context) (at : ℕ) → AreShaped (form_shapes at form) (form_rows c at form).rows
  form_of (named_type q) c at = none_of
  form_of (enum_type names) c at = AreShaped-append (plain_of enum_kind at _ refl refl refl) (constants_of names _ _ 0)
  form_of (sub_type base low high) c at = subrange_row_of (with_rows c []) at (subrange_of c base low high).value
  form_of (array_type index of) c at =
      AreShaped-append3 (types_of index c) (type_of of _)
      (arrays_of index _ _ at _ (length-reverse _ ∙ index_count index c))
  form_of (record_type fs) c at = AreShaped-append (fields_of fs c _ 0) (plain_of record_kind at _ refl refl refl)
  form_of (set_type of) c at = AreShaped-append (type_of of c) (plain_of set_kind at _ refl refl refl)
  form_of (pointer_type of) c at = AreShaped-append (target_of_form c of (type_of of c)) (plain_of pointer_kind at _ refl refl refl)
  form_of (proc_type formals result) c at = AreShaped-append (formals_of formals c _) (plain_of proc_type_kind at _ refl refl refl)

  types_of : (ts : TypeExprs) (c : Context) → AreShaped (types_shapes ts) (index_rows c ts).rows
  types_of no_types c = none_of
  types_of (more_types t ts) c = AreShaped-append (type_of t c) (AreShaped-end (types_of ts _))

  pub fields_of : (fs : FieldLists) (c : Context) (own offset : ℕ) → AreShaped (fields_shapes fs) (fields_rows c own offset fs).rows
  fields_of no_fields c own offset = none_of
  fields_of (more_fields f fs) c own offset = AreShaped-append (field_list_of f c own offset) (fields_of fs _ own _)

  field_list_of : (f : FieldList) (c : Context) (own offset : ℕ) → AreShaped (field_shapes f) (field_list_rows c own offset f).rows
  field_list_of (plain_fields names t) c own offset = AreShaped-append (type_of t c) (plain_fields_of names _ own _ offset)
  field_list_of (case_fields tag of arms other) c own offset =
      let d = with_rows c [] in
      let t = (tag_type c of).value in
      let first = tag_rows d own offset t tag in
      let e = with_rows d first.rows in
      let all = arms_rows e own first.value t [] first.value arms in
      AreShaped-append3 (tag_of tag d own offset t) (arms_of arms e own first.value t [] first.value)
      (AreShaped-end (fields_of other (with_rows e all.rows) own first.value))

  arms_of : (arms : VariantArms) (c : Context) (own offset : ℕ) (t : Place) (covered : List Range) (end : ℕ)
      → AreShaped (arms_shapes arms) (arms_rows c own offset t covered end arms).rows
  arms_of no_variant_arms c own offset t covered end = none_of
  arms_of (more_variant_arms (variant_arm ls fs) arms) c own offset t covered end =
      AreShaped-append (fields_of fs _ own offset) (arms_of arms _ own offset t _ _)
