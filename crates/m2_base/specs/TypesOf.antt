-- The trees of types, by their derivations.
use Rattle.std.specs.Prelude.{ℕ, Bool, true, false, List, [], ◌∷◌, ◌++◌, Option, Some, None}
use Rattle.m2_base.specs.declared.token.Token.{Token}
use Rattle.m2_base.specs.Trees.{Ident, Qual, Formal, Expr, labels, TypeExpr, type_expr, TypeForm, named_type}
use Rattle.m2_base.specs.Trees.{enum_type, sub_type, array_type, record_type, set_type, pointer_type, proc_type}
use Rattle.m2_base.specs.Trees.{type_exprs, FieldList, plain_fields, case_fields, field_lists, VariantArm, variant_arm}
use Rattle.m2_base.specs.Trees.{variant_arms}
use Rattle.m2_base.specs.ExpressionsOf.{no_ident, ident_of, idents_of, qual_of, no_expr, expr_of, labels_of}
use Rattle.ll_grammar.specs.Derivations.{Tree, leaf, both, left, right, more, inner}

-- an optional part is there
abbrev pub is_there : Tree Token → Bool
is_there (left d) = true
is_there _ = false

-- a range in brackets, and its first token
abbrev pub Range : Type 0
Range = ℕ × Expr × Expr

abbrev pub no_range : Range
no_range = (0, no_expr, no_expr)

abbrev pub range_of : Tree Token → Range
range_of (both (leaf t) (both low (both dots (both high close)))) = (t.at, expr_of low, expr_of high)
range_of _ = no_range

abbrev pub optional_range_of : Tree Token → Option Range
optional_range_of (left r) = Some (range_of r)
optional_range_of _ = None

-- a named type, or a range of it
abbrev pub named : Qual → Option Range → TypeExpr
named q None = type_expr q.first.at (named_type q)
named q (Some r) = type_expr q.first.at (sub_type (Some q) r.1 r.2)

-- a range with no type before it
abbrev pub bare_range : Range → TypeExpr
bare_range r = type_expr r.0 (sub_type None r.1 r.2)

abbrev pub no_type : TypeExpr
no_type = type_expr 0 (enum_type [])

abbrev pub named_of : Tree Token → TypeExpr
named_of (both q r) = named (qual_of q) (optional_range_of r)
named_of _ = no_type

abbrev pub enumeration_of : Tree Token → TypeExpr
enumeration_of (both (leaf t) (both names close)) = type_expr t.at (enum_type (idents_of names))
enumeration_of _ = no_type

abbrev pub simple_of : Tree Token → TypeExpr
simple_of (left d) = named_of d
simple_of (right (left d)) = enumeration_of d
simple_of (right (right r)) = bare_range (range_of r)
simple_of _ = no_type

abbrev pub more_simples_of : Tree Token → List TypeExpr
more_simples_of (more (both comma s) ss) = simple_of s ∷ more_simples_of ss
more_simples_of _ = []

abbrev pub simples_of : Tree Token → List TypeExpr
simples_of (both s ss) = simple_of s ∷ more_simples_of ss
simples_of _ = []

abbrev pub formal_of : Tree Token → Formal
formal_of (both by_ref (both is_open q)) =
    record { by_ref = is_there by_ref; is_open = is_there is_open; of = qual_of q }
formal_of _ = record { by_ref = false; is_open = false; of = record { first = no_ident; second = None } }

abbrev pub more_formals_of : Tree Token → List Formal
more_formals_of (more (both comma f) fs) = formal_of f ∷ more_formals_of fs
more_formals_of _ = []

abbrev pub some_formals_of : Tree Token → List Formal
some_formals_of (both f fs) = formal_of f ∷ more_formals_of fs
some_formals_of _ = []

abbrev pub formal_list_of : Tree Token → List Formal
formal_list_of (left fs) = some_formals_of fs
formal_list_of _ = []

abbrev pub result_of : Tree Token → Option Qual
result_of (left (both colon q)) = Some (qual_of q)
result_of _ = None

abbrev pub formals_of : Tree Token → TypeForm
formals_of (left (both opening (both fs (both close result)))) = proc_type (formal_list_of fs) (result_of result)
formals_of _ = proc_type [] None

-- [ident], the tag of a variant part
abbrev pub tag_of : Tree Token → Option Ident
tag_of (left i) = Some (ident_of i)
tag_of _ = None

abbrev pub set_of_of : Tree Token → TypeExpr
set_of_of (both (leaf t) (both of s)) = type_expr t.at (set_type (simple_of s))
set_of_of _ = no_type

abbrev pub proc_type_of : Tree Token → TypeExpr
proc_type_of (both (leaf t) fs) = type_expr t.at (formals_of fs)
proc_type_of _ = no_type

abbrev mutual
  pub type_of : Tree Token → TypeExpr
  type_of (inner d) = type_rule_of d
  type_of _ = no_type

  pub type_rule_of : Tree Token → TypeExpr
  type_rule_of (left d) = simple_of d
  type_rule_of (right (left d)) = array_of d
  type_rule_of (right (right (left d))) = record_of d
  type_rule_of (right (right (right (left d)))) = set_of_of d
  type_rule_of (right (right (right (right (left d))))) = pointer_of d
  type_rule_of (right (right (right (right (right d))))) = proc_type_of d
  type_rule_of _ = no_type

  pub array_of : Tree Token → TypeExpr
  array_of (both (leaf t) (both ss (both of d))) = type_expr t.at (array_type (type_exprs (simples_of ss)) (type_of d))
  array_of _ = no_type

  pub record_of : Tree Token → TypeExpr
  record_of (both (leaf t) (both fs end)) = type_expr t.at (record_type (field_lists (fields_of fs)))
  record_of _ = no_type

  pub pointer_of : Tree Token → TypeExpr
  pointer_of (both (leaf t) (both to d)) = type_expr t.at (pointer_type (type_of d))
  pointer_of _ = no_type

  pub fields_of : Tree Token → List FieldList
  fields_of (both f fs) = optional_field_of f ++ more_fields_of fs
  fields_of _ = []

  pub more_fields_of : Tree Token → List FieldList
  more_fields_of (more (both semicolon f) fs) = optional_field_of f ++ more_fields_of fs
  more_fields_of _ = []

  -- an empty field list leaves no entry
  pub optional_field_of : Tree Token → List FieldList
  optional_field_of (left f) = field_of f ∷ []
  optional_field_of _ = []

  pub field_of : Tree Token → FieldList
  field_of (inner d) = field_rule_of d
  field_of _ = plain_fields [] no_type

  pub field_rule_of : Tree Token → FieldList
  field_rule_of (left d) = plain_fields_of d
  field_rule_of (right d) = case_fields_of d
  field_rule_of _ = plain_fields [] no_type

  pub plain_fields_of : Tree Token → FieldList
  plain_fields_of (both names (both colon d)) = plain_fields (idents_of names) (type_of d)
  plain_fields_of _ = plain_fields [] no_type

  pub case_fields_of : Tree Token → FieldList
  case_fields_of (both case (both tag (both colon (both q (both of (both vs (both other end))))))) =
      case_fields (tag_of tag) (qual_of q) (variant_arms (variants_of vs)) (field_lists (other_fields_of other))
  case_fields_of _ = plain_fields [] no_type

  pub variants_of : Tree Token → List VariantArm
  variants_of (both v vs) = variant_of v ++ more_variants_of vs
  variants_of _ = []

  pub more_variants_of : Tree Token → List VariantArm
  more_variants_of (more (both bar v) vs) = variant_of v ++ more_variants_of vs
  more_variants_of _ = []

  -- an empty variant leaves no entry
  pub variant_of : Tree Token → List VariantArm
  variant_of (left (both ls (both colon fs))) = variant_arm (labels (labels_of ls)) (field_lists (fields_of fs)) ∷ []
  variant_of _ = []

  pub other_fields_of : Tree Token → List FieldList
  other_fields_of (left (both else fs)) = fields_of fs
  other_fields_of _ = []
