-- The rows that each part of a declaration makes, by the syntax alone: how many, and of each its name, kind and token.
use Rattle.std.specs.Prelude.{Bool, List, None, Option, Some, [], false, flat_map, map, true, ℕ, ◌∷◌, ◌++◌}
use Rattle.m2_base.specs.Rows.{alias_kind, array_kind, const_kind, enum_kind, field_kind, module_kind, opaque_kind}
use Rattle.m2_base.specs.Rows.{open_array_kind, param_kind, pointer_kind, proc_kind, proc_type_kind, record_kind}
use Rattle.m2_base.specs.Rows.{set_kind, subrange_kind, type_name_kind, var_kind}
use Rattle.m2_base.specs.Statics.Items.{Item, const_item, heading_item, import_item, proc_item, type_item, vars_item}
use Rattle.m2_base.specs.Trees.{FieldList, FieldLists, Formal, Ident, Qual, Section, TypeExpr, TypeExprs, TypeForm}
use Rattle.m2_base.specs.Trees.{VariantArm, VariantArms, array_type, case_fields, enum_type, more_fields, more_types}
use Rattle.m2_base.specs.Trees.{more_variant_arms, named_type, no_fields, no_types, no_variant_arms, plain_fields}
use Rattle.m2_base.specs.Trees.{pointer_type, proc_type, record_type, set_type, sub_type, type_expr, variant_arm}

-- a row's name (0: none), kind and token
pub record Shape : Type 0 where
  pub name : ℕ
  pub kind : ℕ
  pub at : ℕ

-- a row without a name
abbrev pub nameless : (kind at : ℕ) → Shape
nameless k at = record { name = 0; kind = k; at = at }

-- a row of this name
abbrev pub named : (kind : ℕ) → Ident → Shape
named k i = record { name = i.name; kind = k; at = i.at }

-- an open array has a row of its own
abbrev pub open_shapes : Bool → Qual → List Shape
open_shapes true q = nameless open_array_kind q.first.at ∷ []
open_shapes false q = []

-- a parameter of a procedure type: it has no name
abbrev pub formal_shapes : Formal → List Shape
formal_shapes f = open_shapes f.is_open f.of ++ nameless param_kind f.of.first.at ∷ []

-- a tag with a name is a field
abbrev pub tag_shapes : Option Ident → List Shape
tag_shapes None = []
tag_shapes (Some i) = nameless field_kind i.at ∷ []

-- one array for each index type
abbrev pub array_shapes : (at : ℕ) → TypeExprs → List Shape
array_shapes at no_types = []
array_shapes at (more_types t ts) = nameless array_kind at ∷ array_shapes at ts

-- A name alone makes no row. An enumeration is followed by its constants. Of any other type the inner rows come
-- first, in text order, then its own.
abbrev mutual
  -- the rows of a type expression
  pub type_shapes : TypeExpr → List Shape
  type_shapes (type_expr at form) = form_shapes at form

  -- the rows of each form of type
  pub form_shapes : (at : ℕ) → TypeForm → List Shape
  form_shapes at (named_type q) = []
  form_shapes at (enum_type names) = nameless enum_kind at ∷ map (named const_kind) names
  form_shapes at (sub_type base low high) = nameless subrange_kind at ∷ []
  form_shapes at (array_type index of) = types_shapes index ++ type_shapes of ++ array_shapes at index
  form_shapes at (record_type fields) = fields_shapes fields ++ nameless record_kind at ∷ []
  form_shapes at (set_type of) = type_shapes of ++ nameless set_kind at ∷ []
  form_shapes at (pointer_type of) = type_shapes of ++ nameless pointer_kind at ∷ []
  form_shapes at (proc_type formals result) = flat_map formal_shapes formals ++ nameless proc_type_kind at ∷ []

  -- the rows of index types
  pub types_shapes : TypeExprs → List Shape
  types_shapes no_types = []
  types_shapes (more_types t ts) = type_shapes t ++ types_shapes ts

  -- the rows of a record's fields
  pub fields_shapes : FieldLists → List Shape
  fields_shapes no_fields = []
  fields_shapes (more_fields f fs) = field_shapes f ++ fields_shapes fs

  -- the type's rows, then a field for each name; of a variant part the tag, the variants and what stands after ELSE
  pub field_shapes : FieldList → List Shape
  field_shapes (plain_fields names t) = type_shapes t ++ map (λ i. nameless field_kind i.at) names
  field_shapes (case_fields tag of arms other) = tag_shapes tag ++ arms_shapes arms ++ fields_shapes other

  -- the rows of variants
  pub arms_shapes : VariantArms → List Shape
  arms_shapes no_variant_arms = []
  arms_shapes (more_variant_arms a arms) = arm_shapes a ++ arms_shapes arms

  -- the rows of a variant's fields; its labels make none
  pub arm_shapes : VariantArm → List Shape
  arm_shapes (variant_arm ls fields) = fields_shapes fields

-- in the procedure's own scope a heading has a variable for each parameter
abbrev pub own_section_shapes : Section → List Shape
own_section_shapes s = open_shapes s.is_open s.of ++ map (named var_kind) s.names

-- in the outer scope it has a parameter for each
abbrev pub section_shapes : Section → List Shape
section_shapes s = open_shapes s.is_open s.of ++ map (λ i. nameless param_kind i.at) s.names

-- an imported module is a Module, a name after FROM an Alias
abbrev pub import_kind : Option Ident → ℕ
import_kind None = module_kind
import_kind (Some m) = alias_kind

-- an opaque type makes an Opaque row
abbrev pub type_item_shapes : Ident → Option TypeExpr → List Shape
type_item_shapes name None = nameless opaque_kind name.at ∷ []
type_item_shapes name (Some t) = type_shapes t

-- The rows of an item: what its types make comes first, then the rows of its own names in text order.
abbrev pub item_shapes : Item → List Shape
item_shapes (heading_item h) = flat_map own_section_shapes h.sections
item_shapes (import_item from name) = named (import_kind from) name ∷ []
item_shapes (const_item name value) = named const_kind name ∷ []
item_shapes (type_item name typ) = type_item_shapes name typ ++ named type_name_kind name ∷ []
item_shapes (vars_item names typ) = type_shapes typ ++ map (named var_kind) names
item_shapes (proc_item h stream) =
    flat_map section_shapes h.sections ++ nameless proc_type_kind h.name.at ∷ named proc_kind h.name ∷ []
