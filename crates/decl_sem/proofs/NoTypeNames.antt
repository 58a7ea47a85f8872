-- No row of a type expression is that of a type's name.
use Rattle.std.specs.Prelude.{◌≡◌, ◌≢◌, ℕ, Bool, true, false, List, [], ◌∷◌, ◌++◌, map, flat_map, Option, None, Some}
use Rattle.std.proofs.Common.{arith}
use Rattle.m2_base.specs.Rows.{array_kind, const_kind, enum_kind, field_kind, open_array_kind, param_kind, pointer_kind, proc_type_kind, record_kind, set_kind, subrange_kind, type_name_kind}
use Rattle.m2_base.specs.Statics.Shapes.{Shape, arm_shapes, arms_shapes, array_shapes, field_shapes, fields_shapes, form_shapes, formal_shapes, named, nameless, open_shapes, tag_shapes, type_shapes, types_shapes}
use Rattle.m2_base.specs.Trees.{TypeExpr, type_expr, TypeForm, named_type, enum_type, sub_type, array_type, record_type, set_type, pointer_type, proc_type, TypeExprs, no_types, more_types, FieldList, plain_fields, case_fields, FieldLists, no_fields, more_fields, VariantArm, variant_arm, VariantArms, no_variant_arms, more_variant_arms}
use Rattle.m2_base.specs.declared.trees.Ident.{Ident}
use Rattle.m2_base.specs.declared.trees.Qual.{Qual}
use Rattle.m2_base.specs.declared.trees.types.Formal.{Formal}
use Rattle.m2_base.proofs.EachLaws.{each_append}
use Rattle.decl_sem.proofs.Pieces.{AreNoTypes}

pub both : (xs ys : List Shape) → AreNoTypes xs → AreNoTypes ys → AreNoTypes (xs ++ ys)
both xs ys h k = each_append (λ (s : Shape). s.kind ≢ type_name_kind) xs ys h k

one : (k at : ℕ) → k ≢ type_name_kind → AreNoTypes (nameless k at ∷ [])
one k at h = (h, tt)

constants : (names : List Ident) → AreNoTypes (map (named const_kind) names)
constants [] = tt
constants (i ∷ names) = ((λ e. absurd (let h : const_kind ≡ type_name_kind = e in omega arith)), constants names)

pub fields : (names : List Ident) → AreNoTypes (map (λ (i : Ident). nameless field_kind i.at) names)
fields [] = tt
fields (i ∷ names) = ((λ e. absurd (let h : field_kind ≡ type_name_kind = e in omega arith)), fields names)

pub opens : (is_open : Bool) (q : Qual) → AreNoTypes (open_shapes is_open q)
opens true q = one open_array_kind q.first.at (λ e. absurd (let h : open_array_kind ≡ type_name_kind = e in omega arith))
opens false q = tt

formals : (fs : List Formal) → AreNoTypes (flat_map formal_shapes fs)
formals [] = tt
formals (f ∷ fs) = both (formal_shapes f) (flat_map formal_shapes fs) (both (open_shapes f.is_open f.of) (nameless param_kind f.of.first.at ∷ []) (opens f.is_open f.of) (one param_kind f.of.first.at (λ e. absurd (let h : param_kind ≡ type_name_kind = e in omega arith)))) (formals fs)

tag : (i : Option Ident) → AreNoTypes (tag_shapes i)
tag None = tt
tag (Some i) = one field_kind i.at (λ e. absurd (let h : field_kind ≡ type_name_kind = e in omega arith))

arrays : (at : ℕ) (ts : TypeExprs) → AreNoTypes (array_shapes at ts)
arrays at no_types = tt
arrays at (more_types t ts) = ((λ e. absurd (let h : array_kind ≡ type_name_kind = e in omega arith)), arrays at ts)

mutual
  pub types_name_none : (t : TypeExpr) → AreNoTypes (type_shapes t)
  types_name_none (type_expr at form) = form_names_none at form

  form_names_none : (at : ℕ) (form : TypeForm) → AreNoTypes (form_shapes at form)
  form_names_none at (named_type q) = tt
  form_names_none at (enum_type names) = ((λ e. absurd (let h : enum_kind ≡ type_name_kind = e in omega arith)), constants names)
  form_names_none at (sub_type base low high) = one subrange_kind at (λ e. absurd (let h : subrange_kind ≡ type_name_kind = e in omega arith))
  form_names_none at (array_type index of) = both (types_shapes index ++ type_shapes of) (array_shapes at index) (both (types_shapes index) (type_shapes of) (all_names_none index) (types_name_none of)) (arrays at index)
  form_names_none at (record_type fs) = both (fields_shapes fs) (nameless record_kind at ∷ []) (fields_names_none fs) (one record_kind at (λ e. absurd (let h : record_kind ≡ type_name_kind = e in omega arith)))
  form_names_none at (set_type of) = both (type_shapes of) (nameless set_kind at ∷ []) (types_name_none of) (one set_kind at (λ e. absurd (let h : set_kind ≡ type_name_kind = e in omega arith)))
  form_names_none at (pointer_type of) = both (type_shapes of) (nameless pointer_kind at ∷ []) (types_name_none of) (one pointer_kind at (λ e. absurd (let h : pointer_kind ≡ type_name_kind = e in omega arith)))
  form_names_none at (proc_type fs result) = both (flat_map formal_shapes fs) (nameless proc_type_kind at ∷ []) (formals fs) (one proc_type_kind at (λ e. absurd (let h : proc_type_kind ≡ type_name_kind = e in omega arith)))

  pub all_names_none : (ts : TypeExprs) → AreNoTypes (types_shapes ts)
  all_names_none no_types = tt
  all_names_none (more_types t ts) = both (type_shapes t) (types_shapes ts) (types_name_none t) (all_names_none ts)

  fields_names_none : (fs : FieldLists) → AreNoTypes (fields_shapes fs)
  fields_names_none no_fields = tt
  fields_names_none (more_fields f fs) = both (field_shapes f) (fields_shapes fs) (field_names_none f) (fields_names_none fs)

  field_names_none : (f : FieldList) → AreNoTypes (field_shapes f)
  field_names_none (plain_fields names t) = both (type_shapes t) (map (λ (i : Ident). nameless field_kind i.at) names) (types_name_none t) (fields names)
  field_names_none (case_fields i of arms other) = both (tag_shapes i ++ arms_shapes arms) (fields_shapes other) (both (tag_shapes i) (arms_shapes arms) (tag i) (arms_names_none arms)) (fields_names_none other)

  arms_names_none : (arms : VariantArms) → AreNoTypes (arms_shapes arms)
  arms_names_none no_variant_arms = tt
  arms_names_none (more_variant_arms a arms) = both (arm_shapes a) (arms_shapes arms) (arm_names_none a) (arms_names_none arms)

  arm_names_none : (a : VariantArm) → AreNoTypes (arm_shapes a)
  arm_names_none (variant_arm ls fs) = fields_names_none fs
