-- What every tree keeps that is read from the tokens of a text: its numbers are those that tokens have, and its names
-- have numbers below the count of the unit's names. What stands in a designator, and the labels of variants, make no
-- rows and aren't asked.
use Rattle.std.specs.Prelude.{ℕ, ◌^◌, ◌<◌, List, Option, Some, None}
use Rattle.m2_base.specs.Lists.{Each}
use Rattle.m2_base.specs.Statics.Items.{Item, heading_item, import_item, const_item, type_item, vars_item, proc_item}
use Rattle.m2_base.specs.Trees.{Ident, Expr, expr, ExprForm, number_form, char_form, string_form, set_form}
use Rattle.m2_base.specs.Trees.{typed_set_form, name_form, call_form, one_form, many_form, Exprs, no_exprs, more_exprs}
use Rattle.m2_base.specs.Trees.{Next, next, Nexts, no_nexts, more_nexts, Label, one_label, range_label, Labels}
use Rattle.m2_base.specs.Trees.{no_labels, more_labels, TypeExpr, type_expr, TypeForm, named_type, enum_type, sub_type}
use Rattle.m2_base.specs.Trees.{array_type, record_type, set_type, pointer_type, proc_type, TypeExprs, no_types}
use Rattle.m2_base.specs.Trees.{more_types, FieldList, plain_fields, case_fields, FieldLists, no_fields, more_fields}
use Rattle.m2_base.specs.Trees.{VariantArm, variant_arm, VariantArms, no_variant_arms, more_variant_arms, Section}

abbrev mutual
  -- an expression whose numbers, characters and strings are right
  pub IsSoundExpr : (names : ℕ) → Expr → Type 0
  IsSoundExpr names (expr at form) = IsSoundForm names form

  -- by its form
  pub IsSoundForm : (names : ℕ) → ExprForm → Type 0
  IsSoundForm names (number_form n) = n < 2 ^ 32
  IsSoundForm names (char_form n) = n < 256
  IsSoundForm names (string_form n) = n < names
  IsSoundForm names (set_form items) = AreSoundLabels names items
  IsSoundForm names (typed_set_form d items) = AreSoundLabels names items
  IsSoundForm names (name_form d) = Unit {0}
  IsSoundForm names (call_form d args) = AreSoundExprs names args
  IsSoundForm names (one_form op op_at e) = IsSoundExpr names e
  IsSoundForm names (many_form first rest) = IsSoundExpr names first × AreSoundNexts names rest

  -- the arguments of a call
  pub AreSoundExprs : (names : ℕ) → Exprs → Type 0
  AreSoundExprs names no_exprs = Unit {0}
  AreSoundExprs names (more_exprs e es) = IsSoundExpr names e × AreSoundExprs names es

  -- the operands behind operators
  pub AreSoundNexts : (names : ℕ) → Nexts → Type 0
  AreSoundNexts names no_nexts = Unit {0}
  AreSoundNexts names (more_nexts n ns) = IsSoundNext names n × AreSoundNexts names ns

  -- the operand behind an operator
  pub IsSoundNext : (names : ℕ) → Next → Type 0
  IsSoundNext names (next op op_at e) = IsSoundExpr names e

  -- the elements of a set
  pub AreSoundLabels : (names : ℕ) → Labels → Type 0
  AreSoundLabels names no_labels = Unit {0}
  AreSoundLabels names (more_labels l ls) = IsSoundLabel names l × AreSoundLabels names ls

  -- an element, or a range of them
  pub IsSoundLabel : (names : ℕ) → Label → Type 0
  IsSoundLabel names (one_label e) = IsSoundExpr names e
  IsSoundLabel names (range_label low high) = IsSoundExpr names low × IsSoundExpr names high

-- a tag
abbrev pub IsSoundTag : (names : ℕ) → Option Ident → Type 0
IsSoundTag names None = Unit {0}
IsSoundTag names (Some i) = i.name < names

-- names that are declared
abbrev pub AreSoundNames : (names : ℕ) → List Ident → Type 0
AreSoundNames names idents = Each (λ i. i.name < names) idents

abbrev mutual
  -- a type expression whose declared names and bounds are right
  pub IsSoundType : (names : ℕ) → TypeExpr → Type 0
  IsSoundType names (type_expr at form) = IsSoundTypeForm names form

  -- by its form
  pub IsSoundTypeForm : (names : ℕ) → TypeForm → Type 0
  IsSoundTypeForm names (named_type q) = Unit {0}
  IsSoundTypeForm names (enum_type idents) = AreSoundNames names idents
  IsSoundTypeForm names (sub_type base low high) = IsSoundExpr names low × IsSoundExpr names high
  IsSoundTypeForm names (array_type index of) = AreSoundTypes names index × IsSoundType names of
  IsSoundTypeForm names (record_type fields) = AreSoundFields names fields
  IsSoundTypeForm names (set_type of) = IsSoundType names of
  IsSoundTypeForm names (pointer_type of) = IsSoundType names of
  IsSoundTypeForm names (proc_type formals result) = Unit {0}

  -- index types
  pub AreSoundTypes : (names : ℕ) → TypeExprs → Type 0
  AreSoundTypes names no_types = Unit {0}
  AreSoundTypes names (more_types t ts) = IsSoundType names t × AreSoundTypes names ts

  -- the fields of a record
  pub AreSoundFields : (names : ℕ) → FieldLists → Type 0
  AreSoundFields names no_fields = Unit {0}
  AreSoundFields names (more_fields f fs) = IsSoundField names f × AreSoundFields names fs

  -- fields of one type, or a variant part
  pub IsSoundField : (names : ℕ) → FieldList → Type 0
  IsSoundField names (plain_fields idents t) = AreSoundNames names idents × IsSoundType names t
  IsSoundField names (case_fields tag of arms other) =
      IsSoundTag names tag × AreSoundArms names arms × AreSoundFields names other

  -- the variants
  pub AreSoundArms : (names : ℕ) → VariantArms → Type 0
  AreSoundArms names no_variant_arms = Unit {0}
  AreSoundArms names (more_variant_arms a arms) = IsSoundArm names a × AreSoundArms names arms

  -- the fields of a variant
  pub IsSoundArm : (names : ℕ) → VariantArm → Type 0
  IsSoundArm names (variant_arm ls fields) = AreSoundFields names fields

-- the type of a type's declaration, if there is one
abbrev pub IsSoundOption : (names : ℕ) → Option TypeExpr → Type 0
IsSoundOption names None = Unit {0}
IsSoundOption names (Some t) = IsSoundType names t

-- the names of the parameters
abbrev pub AreSoundSections : (names : ℕ) → List Section → Type 0
AreSoundSections names sections = Each (λ s. AreSoundNames names s.names) sections

-- an item
abbrev pub IsSoundItem : (names : ℕ) → Item → Type 0
IsSoundItem names (heading_item h) = AreSoundSections names h.sections
IsSoundItem names (import_item from i) = i.name < names
IsSoundItem names (const_item i e) = (i.name < names) × IsSoundExpr names e
IsSoundItem names (type_item i t) = (i.name < names) × IsSoundOption names t
IsSoundItem names (vars_item idents t) = AreSoundNames names idents × IsSoundType names t
IsSoundItem names (proc_item h stream) = (h.name.name < names) × AreSoundSections names h.sections × (stream < 2 ^ 32)
