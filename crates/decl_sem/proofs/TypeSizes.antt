-- The sizes of type expressions, by which the walk through them ends.
use Rattle.std.specs.Prelude.{◌≡◌, ℕ, suc, ◌+◌, ◌<◌}
use Rattle.std.proofs.Common.{ap, arith}
use Rattle.m2_base.specs.Trees.{TypeExpr, TypeForm, type_expr, named_type, enum_type, sub_type, array_type, record_type, set_type, pointer_type, proc_type, TypeExprs, no_types, more_types, FieldList, plain_fields, case_fields, FieldLists, no_fields, more_fields, VariantArm, variant_arm, VariantArms, no_variant_arms, more_variant_arms}
use Rattle.m2_base.specs.Views.{type_form_view, type_view}
use Rattle.m2_base.specs.declared.trees.types as code
use Rattle.decl_sem.proofs.TypeForms.{seen}

abbrev mutual
  pub size_type : TypeExpr → ℕ
  size_type (type_expr at form) = suc (size_form form)

  pub size_form : TypeForm → ℕ
  size_form (named_type q) = 0
  size_form (enum_type names) = 0
  size_form (sub_type base low high) = 0
  size_form (array_type index of) = size_types index + size_type of
  size_form (record_type fields) = size_fields fields
  size_form (set_type of) = size_type of
  size_form (pointer_type of) = size_type of
  size_form (proc_type formals result) = 0

  pub size_types : TypeExprs → ℕ
  size_types no_types = 0
  size_types (more_types t ts) = size_type t + size_types ts

  pub size_fields : FieldLists → ℕ
  size_fields no_fields = 0
  size_fields (more_fields f fs) = size_field f + size_fields fs

  pub size_field : FieldList → ℕ
  size_field (plain_fields names t) = suc (size_type t)
  size_field (case_fields tag of arms other) = suc (size_arms arms + size_fields other)

  pub size_arms : VariantArms → ℕ
  size_arms no_variant_arms = 0
  size_arms (more_variant_arms a arms) = size_arm a + size_arms arms

  pub size_arm : VariantArm → ℕ
  size_arm (variant_arm ls fields) = suc (size_fields fields)

-- the base of a set is smaller
pub smaller_base : (t u : code.TypeExpr.TypeExpr) → type_form_view t.form ≡ set_type (type_view u) → size_type (type_view u) < size_type (type_view t)
smaller_base t u e =
    let whole : size_type (type_view t) ≡ suc (size_type (type_view u)) = ap size_type (seen t (set_type (type_view u)) e) in
    omega arith

-- the target of a pointer is smaller
pub smaller_target : (t u : code.TypeExpr.TypeExpr) → type_form_view t.form ≡ pointer_type (type_view u) → size_type (type_view u) < size_type (type_view t)
smaller_target t u e =
    let whole : size_type (type_view t) ≡ suc (size_type (type_view u)) = ap size_type (seen t (pointer_type (type_view u)) e) in
    omega arith
