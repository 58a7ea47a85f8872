-- The rows of a type expression, and the type that it is. A part in error is of type Broken.
use Rattle.std.specs.Prelude.{List, [], length, max, reverse, ℕ, ◌+◌, ◌∷◌}
use Rattle.m2_base.specs.Rows.{Enum, Place, Pointer, ProcType, Record, Set}
use Rattle.m2_base.specs.Statics.Arrays.{array_rows, checked_base, checked_index}
use Rattle.m2_base.specs.Statics.CaseLabels.{labels_of}
use Rattle.m2_base.specs.Statics.Cells.{fitting}
use Rattle.m2_base.specs.Statics.Contexts.{Context}
use Rattle.m2_base.specs.Statics.Enumerations.{constant_rows}
use Rattle.m2_base.specs.Statics.Fields.{plain_rows, tag_rows, tag_type}
use Rattle.m2_base.specs.Statics.Makes.{Makes, make_then, makes, makes_row, next_place, only_gives}
use Rattle.m2_base.specs.Statics.ProcedureTypes.{formal_rows, formals_length, result_type}
use Rattle.m2_base.specs.Statics.Ranges.{Range}
use Rattle.m2_base.specs.Statics.Shapes.{fields_shapes}
use Rattle.m2_base.specs.Statics.Subranges.{subrange_of, subrange_row}
use Rattle.m2_base.specs.Statics.Targets.{target_by_name, target_name, target_or}
use Rattle.m2_base.specs.Statics.TypeNames.{type_of_qual}
use Rattle.m2_base.specs.Trees.{FieldList, FieldLists, TypeExpr, TypeExprs, TypeForm, VariantArms, array_type}
use Rattle.m2_base.specs.Trees.{case_fields, enum_type, labels, more_fields, more_types, more_variant_arms, named_type}
use Rattle.m2_base.specs.Trees.{no_fields, no_types, no_variant_arms, plain_fields, pointer_type, proc_type}
use Rattle.m2_base.specs.Trees.{record_type, set_type, sub_type, type_at, type_expr, variant_arm}

abbrev mutual
  -- the value is the type
  pub type_rows : Context → TypeExpr → Makes Place
  type_rows c (type_expr at form) = form_rows c at form

  -- the rows of each form of type
  pub form_rows : Context → (at : ℕ) → TypeForm → Makes Place
  form_rows c at (named_type q) = only_gives (type_of_qual c q)
  form_rows c at (enum_type names) =
      make_then c (makes_row c at (Enum (length names))) (λ d t. constant_rows d t 0 names)
  form_rows c at (sub_type base low high) =
      make_then c (only_gives (subrange_of c base low high)) (λ d m. subrange_row d at m)
  form_rows c at (array_type index of) =
      make_then c (index_rows c index) (λ d is.
      make_then d (type_rows d of) (λ e t.
      array_rows e at (reverse is) t))
  form_rows c at (record_type fields) =
      let first = (next_place c).ordinal in
      make_then c (fields_rows c (first + length (fields_shapes fields)) 0 fields) (λ d end.
      make_then d (makes_row d at (Record first (max 1 end))) (λ e t.
      only_gives (fitting e at (max 1 end) t)))
  form_rows c at (set_type of) =
      make_then c (type_rows c of) (λ d t.
      make_then d (only_gives (checked_base d (type_at of) t)) (λ e base.
      makes_row e at (Set base)))
  form_rows c at (pointer_type of) =
      make_then c (target_or (target_by_name c (target_name c of)) (type_rows c of))
      (λ d t. makes_row d at (Pointer t))
  form_rows c at (proc_type formals result) =
      let first = (next_place c).ordinal in
      make_then c (formal_rows c (first + formals_length formals) formals) (λ d none.
      make_then d (only_gives (result_type d result)) (λ e r.
      makes_row e at (ProcType r (length formals) first)))

  -- index types, in order
  pub index_rows : Context → TypeExprs → Makes (List Place)
  index_rows c no_types = makes []
  index_rows c (more_types t ts) =
      make_then c (type_rows c t) (λ d u.
      make_then d (only_gives (checked_index d (type_at t) u)) (λ e i.
      make_then e (index_rows e ts) (λ f is.
      makes (i ∷ is))))

  -- fields one after another; the value is the offset after them
  pub fields_rows : Context → (own offset : ℕ) → FieldLists → Makes ℕ
  fields_rows c own offset no_fields = makes offset
  fields_rows c own offset (more_fields f fs) =
      make_then c (field_list_rows c own offset f) (λ d o. fields_rows d own o fs)

  -- each variant begins at the same offset, and the greatest counts
  pub field_list_rows : Context → (own offset : ℕ) → FieldList → Makes ℕ
  field_list_rows c own offset (plain_fields names typ) =
      make_then c (type_rows c typ) (λ d t. plain_rows d own t offset names)
  field_list_rows c own offset (case_fields tag of arms other) =
      make_then c (only_gives (tag_type c of)) (λ d t.
      make_then d (tag_rows d own offset t tag) (λ e o.
      make_then e (arms_rows e own o t [] o arms) (λ f end.
      make_then f (fields_rows f own o other) (λ g last.
      makes (max end last)))))

  -- the arms from here on, where earlier arms cover these values and the greatest ends at this offset
  pub arms_rows : Context → (own offset : ℕ) → (tag : Place) → List Range → (end : ℕ) → VariantArms → Makes ℕ
  arms_rows c own offset t covered end no_variant_arms = makes end
  arms_rows c own offset t covered end (more_variant_arms (variant_arm labels fields) arms) =
      make_then c (only_gives (labels_of c t covered labels)) (λ d ls.
      make_then d (fields_rows d own offset fields) (λ e o.
      arms_rows e own offset t ls.covered (max end o) arms))
