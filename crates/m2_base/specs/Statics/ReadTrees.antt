-- What every tree has that was read from the tokens of a text: its numbers, characters and strings are those that
-- tokens have, and its names are names of the unit. An analyser asks no more of a tree.
use Rattle.std.specs.Prelude.{◌≡◌, ◌≢◌, ℕ, ◌<◌, ◌^◌, List, [], length, slice_index_or, Option, Some, None}
use Rattle.m2_base.specs.KindNumbers.{kind_number}
use Rattle.m2_base.specs.Lists.{Each}
use Rattle.m2_base.specs.Statics.Items.{Item, const_item, heading_item, import_item, proc_item, type_item, vars_item}
use Rattle.m2_base.specs.Trees.{Designator, Expr, ExprForm, Exprs, FieldList, FieldLists, Heading, Ident, Label}
use Rattle.m2_base.specs.Trees.{Labels, Next, Nexts, Qual, Section, Selector, Selectors, TypeExpr, TypeExprs, TypeForm}
use Rattle.m2_base.specs.Trees.{VariantArm, VariantArms, array_type, call_form, case_fields, char_form, deref_selector}
use Rattle.m2_base.specs.Trees.{designator, enum_type, expr, field_selector, index_selector, many_form, more_exprs}
use Rattle.m2_base.specs.Trees.{more_fields, more_labels, more_nexts, more_selectors, more_types, more_variant_arms}
use Rattle.m2_base.specs.Trees.{name_form, named_type, next, no_exprs, no_fields, no_labels, no_nexts, no_selectors}
use Rattle.m2_base.specs.Trees.{no_types, no_variant_arms, number_form, one_form, one_label, plain_fields}
use Rattle.m2_base.specs.Trees.{pointer_type, proc_type, range_label, record_type, set_form, set_type, string_form}
use Rattle.m2_base.specs.Trees.{sub_type, type_expr, typed_set_form, variant_arm}
use Rattle.m2_base.specs.declared.kind.TokenKind.TheVariants.{Character, Cut, Identifier, Number, String}
use Rattle.m2_base.specs.declared.token.Token.{Token}
use Rattle.m2_base.specs.declared.trees.types.Formal.{Formal}

-- a name of the unit, and not the empty one
pub record IsReadName (names : List (List ℕ)) (i : Ident) : Type 0 where
  pub some : i.name ≢ 0
  pub known : i.name < length names

-- a string of the unit, whose length is a number of 32 bits
abbrev pub IsReadString : (names : List (List ℕ)) → ℕ → Type 0
IsReadString names n = (n < length names) × (length (slice_index_or names n []) < 2 ^ 32)

-- the value of a token, where it is a name, a number, a character, a string or the cut of a procedure
pub record IsReadToken (names : List (List ℕ)) (t : Token) : Type 0 where
  pub name : kind_number t.kind ≡ kind_number Identifier → IsReadName names (record { name = t.value; at = t.at })
  pub number : kind_number t.kind ≡ kind_number Number → t.value < 2 ^ 32
  pub character : kind_number t.kind ≡ kind_number Character → t.value < 256
  pub text : kind_number t.kind ≡ kind_number String → IsReadString names t.value
  pub cut : kind_number t.kind ≡ kind_number Cut → t.value < 2 ^ 32

abbrev mutual
  -- an expression
  pub IsReadExpr : (names : List (List ℕ)) → Expr → Type 0
  IsReadExpr names (expr at form) = IsReadForm names form

  -- by its form
  pub IsReadForm : (names : List (List ℕ)) → ExprForm → Type 0
  IsReadForm names (number_form n) = n < 2 ^ 32
  IsReadForm names (char_form n) = n < 256
  IsReadForm names (string_form n) = IsReadString names n
  IsReadForm names (set_form items) = AreReadLabels names items
  IsReadForm names (typed_set_form d items) = IsReadDesignator names d × AreReadLabels names items
  IsReadForm names (name_form d) = IsReadDesignator names d
  IsReadForm names (call_form d args) = IsReadDesignator names d × AreReadExprs names args
  IsReadForm names (one_form op op_at e) = IsReadExpr names e
  IsReadForm names (many_form first rest) = IsReadExpr names first × AreReadNexts names rest

  -- expressions
  pub AreReadExprs : (names : List (List ℕ)) → Exprs → Type 0
  AreReadExprs names no_exprs = Unit {0}
  AreReadExprs names (more_exprs e es) = IsReadExpr names e × AreReadExprs names es

  -- operators, each with the operand behind it
  pub AreReadNexts : (names : List (List ℕ)) → Nexts → Type 0
  AreReadNexts names no_nexts = Unit {0}
  AreReadNexts names (more_nexts n ns) = IsReadNext names n × AreReadNexts names ns

  -- an operator with its operand
  pub IsReadNext : (names : List (List ℕ)) → Next → Type 0
  IsReadNext names (next op op_at e) = IsReadExpr names e

  -- the elements of a set, or labels
  pub AreReadLabels : (names : List (List ℕ)) → Labels → Type 0
  AreReadLabels names no_labels = Unit {0}
  AreReadLabels names (more_labels l ls) = IsReadLabel names l × AreReadLabels names ls

  -- one value, or a range
  pub IsReadLabel : (names : List (List ℕ)) → Label → Type 0
  IsReadLabel names (one_label e) = IsReadExpr names e
  IsReadLabel names (range_label low high) = IsReadExpr names low × IsReadExpr names high

  -- a designator: its names aren't empty
  pub IsReadDesignator : (names : List (List ℕ)) → Designator → Type 0
  IsReadDesignator names (designator first rest) = (first.name ≢ 0) × AreReadSelectors names rest

  -- selectors
  pub AreReadSelectors : (names : List (List ℕ)) → Selectors → Type 0
  AreReadSelectors names no_selectors = Unit {0}
  AreReadSelectors names (more_selectors s ss) = IsReadSelector names s × AreReadSelectors names ss

  -- a selector
  pub IsReadSelector : (names : List (List ℕ)) → Selector → Type 0
  IsReadSelector names (field_selector i dot) = i.name ≢ 0
  IsReadSelector names (index_selector es bracket) = AreReadExprs names es
  IsReadSelector names (deref_selector caret) = Unit {0}

-- a name that stands or doesn't
abbrev pub IsReadOption : (names : List (List ℕ)) → Option Ident → Type 0
IsReadOption names None = Unit {0}
IsReadOption names (Some i) = IsReadName names i

-- a name with or without a module before it
pub record IsReadQual (names : List (List ℕ)) (q : Qual) : Type 0 where
  pub first : IsReadName names q.first
  pub second : IsReadOption names q.second

-- a type's name that stands or doesn't
abbrev pub IsReadQualOption : (names : List (List ℕ)) → Option Qual → Type 0
IsReadQualOption names None = Unit {0}
IsReadQualOption names (Some q) = IsReadQual names q

-- names that are declared
abbrev pub AreReadNames : (names : List (List ℕ)) → List Ident → Type 0
AreReadNames names idents = Each (λ i. IsReadName names i) idents

-- the parameters of a procedure type
abbrev pub AreReadFormals : (names : List (List ℕ)) → List Formal → Type 0
AreReadFormals names formals = Each (λ f. IsReadQual names f.of) formals

abbrev mutual
  -- a type
  pub IsReadType : (names : List (List ℕ)) → TypeExpr → Type 0
  IsReadType names (type_expr at form) = IsReadTypeForm names form

  -- by its form
  pub IsReadTypeForm : (names : List (List ℕ)) → TypeForm → Type 0
  IsReadTypeForm names (named_type q) = IsReadQual names q
  IsReadTypeForm names (enum_type idents) = AreReadNames names idents
  IsReadTypeForm names (sub_type base low high) =
      IsReadQualOption names base × IsReadExpr names low × IsReadExpr names high
  IsReadTypeForm names (array_type index of) = AreReadTypes names index × IsReadType names of
  IsReadTypeForm names (record_type fields) = AreReadFields names fields
  IsReadTypeForm names (set_type of) = IsReadType names of
  IsReadTypeForm names (pointer_type of) = IsReadType names of
  IsReadTypeForm names (proc_type formals result) = AreReadFormals names formals × IsReadQualOption names result

  -- index types
  pub AreReadTypes : (names : List (List ℕ)) → TypeExprs → Type 0
  AreReadTypes names no_types = Unit {0}
  AreReadTypes names (more_types t ts) = IsReadType names t × AreReadTypes names ts

  -- the fields of a record
  pub AreReadFields : (names : List (List ℕ)) → FieldLists → Type 0
  AreReadFields names no_fields = Unit {0}
  AreReadFields names (more_fields f fs) = IsReadField names f × AreReadFields names fs

  -- fields of one type, or a variant part
  pub IsReadField : (names : List (List ℕ)) → FieldList → Type 0
  IsReadField names (plain_fields idents t) = AreReadNames names idents × IsReadType names t
  IsReadField names (case_fields tag of arms other) =
      IsReadOption names tag × IsReadQual names of × AreReadArms names arms × AreReadFields names other

  -- the variants
  pub AreReadArms : (names : List (List ℕ)) → VariantArms → Type 0
  AreReadArms names no_variant_arms = Unit {0}
  AreReadArms names (more_variant_arms a arms) = IsReadArm names a × AreReadArms names arms

  -- a variant: its labels and its fields
  pub IsReadArm : (names : List (List ℕ)) → VariantArm → Type 0
  IsReadArm names (variant_arm labels fields) = AreReadLabels names labels × AreReadFields names fields

-- the type of a type's declaration, if there is one
abbrev pub IsReadTypeOption : (names : List (List ℕ)) → Option TypeExpr → Type 0
IsReadTypeOption names None = Unit {0}
IsReadTypeOption names (Some t) = IsReadType names t

-- parameters of one type
pub record IsReadSection (names : List (List ℕ)) (s : Section) : Type 0 where
  pub idents : AreReadNames names s.names
  pub of : IsReadQual names s.of

-- a procedure's heading
pub record IsReadHeading (names : List (List ℕ)) (h : Heading) : Type 0 where
  pub name : IsReadName names h.name
  pub sections : Each (IsReadSection names) h.sections
  pub result : IsReadQualOption names h.result

-- an item; the number of a procedure's stream has 32 bits
abbrev pub IsReadItem : (names : List (List ℕ)) → Item → Type 0
IsReadItem names (heading_item h) = IsReadHeading names h
IsReadItem names (import_item from i) = IsReadOption names from × IsReadName names i
IsReadItem names (const_item i e) = IsReadName names i × IsReadExpr names e
IsReadItem names (type_item i t) = IsReadName names i × IsReadTypeOption names t
IsReadItem names (vars_item idents t) = AreReadNames names idents × IsReadType names t
IsReadItem names (proc_item h stream) = IsReadHeading names h × (stream < 2 ^ 32)
