-- Readers of types. They take the readers of what nests: a factor, a type and a field list.
use Rattle.std.specs.Prelude.{ℕ, zero, suc, Bool, true, false, List, [], ◌∷◌, Ok, Option, Some, None, if◌then◌else◌}
use Rattle.m2_base.specs.declared.kind.TokenKind.TheVariants.{Identifier, Comma, Semicolon, Colon, Bar}
use Rattle.m2_base.specs.declared.kind.TokenKind.TheVariants.{LeftParenthesis, RightParenthesis, LeftBracket}
use Rattle.m2_base.specs.declared.kind.TokenKind.TheVariants.{RightBracket, Ellipsis, Array, Of, Record, End, Set}
use Rattle.m2_base.specs.declared.kind.TokenKind.TheVariants.{Pointer, To, Procedure, Var, Case, Else}
use Rattle.m2_base.specs.declared.token.Token.{Token}
use Rattle.m2_base.specs.declared.trees.Ident.{Ident}
use Rattle.m2_base.specs.declared.trees.Qual.{Qual}
use Rattle.m2_base.specs.declared.trees.types.Formal.{Formal}
use Rattle.m2_base.specs.KindNumbers.{kind_number}
use Rattle.m2_base.specs.Grammar.{number_of_token}
use Rattle.m2_base.specs.Trees.{Expr, labels, TypeExpr, type_expr, TypeForm, enum_type, array_type, record_type}
use Rattle.m2_base.specs.Trees.{set_type, pointer_type, proc_type, type_exprs, FieldList, plain_fields, case_fields}
use Rattle.m2_base.specs.Trees.{field_lists, VariantArm, variant_arm, variant_arms}
use Rattle.m2_base.specs.TypesOf.{Range, named, bare_range}
use Rattle.ll_grammar.specs.Readers.{◌>>=◌, listed, itself, all, at_depth}
use Rattle.m2_parse.specs.Reading.{Read, tell, next_is, next_in, expect}
use Rattle.m2_parse.specs.ReadNames.{ident_at, idents_at, qual_at}
use Rattle.m2_parse.specs.ReadExpressions.{begins_expr, expr_with, labels_with, factor_at}

-- what a type and a field list begin with
abbrev pub begins_type : List Token → Bool
begins_type ts =
    next_in (Identifier ∷ LeftParenthesis ∷ LeftBracket ∷ Array ∷ Record ∷ Set ∷ Pointer ∷ Procedure ∷ []) ts

abbrev pub begins_field : List Token → Bool
begins_field ts = next_in (Identifier ∷ Case ∷ []) ts

-- [VAR] and [ARRAY OF]
unfoldable pub by_reference_at : Read Bool
by_reference_at ts =
    if next_is Var ts then (do
      p ← expect Var ts
      Ok (true, p.1)) else Ok (false, ts)

unfoldable pub open_array_at : Read Bool
open_array_at ts =
    if next_is Array ts then (do
      p ← expect Array ts
      q ← expect Of p.1
      Ok (true, q.1)) else Ok (false, ts)

-- Formal = [VAR] [ARRAY OF] Qual
unfoldable pub formal_at : Read Formal
formal_at ts = do
  v ← by_reference_at ts
  o ← open_array_at v.1
  q ← qual_at o.1
  Ok (record { by_ref = v.0; is_open = o.0; of = q.0 }, q.1)

abbrev pub some_formals_at : Read (List Formal)
some_formals_at ts = listed number_of_token (kind_number Comma) formal_at itself ts

abbrev pub begins_formal : List Token → Bool
begins_formal ts = next_in (Var ∷ Array ∷ Identifier ∷ []) ts

unfoldable pub formal_list_at : Read (List Formal)
formal_list_at ts = if begins_formal ts then some_formals_at ts else Ok ([], ts)

-- [":" Qual]
unfoldable pub result_at : Read (Option Qual)
result_at ts =
    if next_is Colon ts then (do
      p ← expect Colon ts
      q ← qual_at p.1
      Ok (Some q.0, q.1)) else Ok (None, ts)

-- ["(" [Formal {"," Formal}] ")" [":" Qual]]
unfoldable pub formals_at : Read TypeForm
formals_at ts =
    if next_is LeftParenthesis ts then (do
      p ← expect LeftParenthesis ts
      fs ← formal_list_at p.1
      q ← expect RightParenthesis fs.1
      r ← result_at q.1
      Ok (proc_type fs.0 r.0, r.1)) else Ok (proc_type [] None, ts)

unfoldable pub enumeration_at : Read TypeExpr
enumeration_at ts = do
  p ← expect LeftParenthesis ts
  is ← idents_at p.1
  q ← expect RightParenthesis is.1
  Ok (type_expr p.0.at (enum_type is.0), q.1)

-- [ident], the tag of a variant part
unfoldable pub tag_at : Read (Option Ident)
tag_at ts =
    if next_is Identifier ts then (do
      i ← ident_at ts
      Ok (Some i.0, i.1)) else Ok (None, ts)

-- PROCEDURE ["(" [Formal {"," Formal}] ")" [":" Qual]]
unfoldable pub proc_type_at : Read TypeExpr
proc_type_at ts = do
  p ← expect Procedure ts
  fs ← formals_at p.1
  Ok (type_expr p.0.at fs.0, fs.1)

abbrev pub begins_simple : List Token → Bool
begins_simple ts = next_in (Identifier ∷ LeftParenthesis ∷ LeftBracket ∷ []) ts

module _ (factor : Read Expr) where
  -- Range = "[" Expr ".." Expr "]", with its first token
  unfoldable pub range_with : Read Range
  range_with ts = do
    p ← expect LeftBracket ts
    e ← expr_with factor p.1
    d ← expect Ellipsis e.1
    f ← expr_with factor d.1
    q ← expect RightBracket f.1
    Ok ((p.0.at, e.0, f.0), q.1)

  unfoldable pub optional_range_with : Read (Option Range)
  optional_range_with ts =
      if next_is LeftBracket ts then (do
        r ← range_with ts
        Ok (Some r.0, r.1)) else Ok (None, ts)

  -- Simple = Qual [Range] | "(" Idents ")" | Range
  unfoldable pub named_with : Read TypeExpr
  named_with ts = do
    q ← qual_at ts
    r ← optional_range_with q.1
    Ok (named q.0 r.0, r.1)

  unfoldable pub simple_with : Read TypeExpr
  simple_with ts =
      if next_is Identifier ts then named_with ts else
      (if next_is LeftParenthesis ts then enumeration_at ts else (do
        r ← range_with ts
        Ok (bare_range r.0, r.1)))

  abbrev pub simples_with : Read (List TypeExpr)
  simples_with ts = listed number_of_token (kind_number Comma) simple_with itself ts

  -- SET OF Simple
  unfoldable pub set_of_with : Read TypeExpr
  set_of_with ts = do
    p ← expect Set ts
    o ← expect Of p.1
    s ← simple_with o.1
    Ok (type_expr p.0.at (set_type s.0), s.1)

  module _ (type_reader : Read TypeExpr) (field_reader : Read FieldList) where
    -- Fields = FieldList {";" FieldList}; an empty one leaves no entry
    unfoldable pub optional_field_with : Read (List FieldList)
    optional_field_with ts =
        if begins_field ts then (do
          f ← field_reader ts
          Ok (f.0 ∷ [], f.1)) else Ok ([], ts)

    abbrev pub fields_with : Read (List FieldList)
    fields_with ts = listed number_of_token (kind_number Semicolon) optional_field_with all ts

    -- Variant = [Labels ":" Fields]; an empty one leaves no entry
    unfoldable pub variant_with : Read (List VariantArm)
    variant_with ts =
        if begins_expr ts then (do
          ls ← labels_with factor ts
          c ← expect Colon ls.1
          fs ← fields_with c.1
          Ok (variant_arm (labels ls.0) (field_lists fs.0) ∷ [], fs.1)) else Ok ([], ts)

    abbrev pub variants_with : Read (List VariantArm)
    variants_with ts = listed number_of_token (kind_number Bar) variant_with all ts

    -- [ELSE Fields]
    unfoldable pub other_fields_with : Read (List FieldList)
    other_fields_with ts =
        if next_is Else ts then (do
          p ← expect Else ts
          fs ← fields_with p.1
          Ok (fs.0, fs.1)) else Ok ([], ts)

    -- Idents ":" Type
    unfoldable pub plain_fields_with : Read FieldList
    plain_fields_with ts = do
      is ← idents_at ts
      c ← expect Colon is.1
      d ← type_reader c.1
      Ok (plain_fields is.0 d.0, d.1)

    -- CASE [ident] ":" Qual OF Variant {"|" Variant} [ELSE Fields] END
    unfoldable pub case_fields_with : Read FieldList
    case_fields_with ts = do
      k ← expect Case ts
      tag ← tag_at k.1
      c ← expect Colon tag.1
      q ← qual_at c.1
      o ← expect Of q.1
      vs ← variants_with o.1
      other ← other_fields_with vs.1
      e ← expect End other.1
      Ok (case_fields tag.0 q.0 (variant_arms vs.0) (field_lists other.0), e.1)

    -- FieldList
    unfoldable pub inner_field : Read FieldList
    inner_field ts = if next_is Identifier ts then plain_fields_with ts else case_fields_with ts

    -- ARRAY Simple {"," Simple} OF Type
    unfoldable pub array_with : Read TypeExpr
    array_with ts = do
      p ← expect Array ts
      ss ← simples_with p.1
      o ← expect Of ss.1
      d ← type_reader o.1
      Ok (type_expr p.0.at (array_type (type_exprs ss.0) d.0), d.1)

    -- RECORD Fields END
    unfoldable pub record_with : Read TypeExpr
    record_with ts = do
      p ← expect Record ts
      fs ← fields_with p.1
      e ← expect End fs.1
      Ok (type_expr p.0.at (record_type (field_lists fs.0)), e.1)

    -- POINTER TO Type
    unfoldable pub pointer_with : Read TypeExpr
    pointer_with ts = do
      p ← expect Pointer ts
      o ← expect To p.1
      d ← type_reader o.1
      Ok (type_expr p.0.at (pointer_type d.0), d.1)

    -- Type
    unfoldable pub inner_type : Read TypeExpr
    inner_type ts =
        if begins_simple ts then simple_with ts else
        (if next_is Array ts then array_with ts else
        (if next_is Record ts then record_with ts else
        (if next_is Set ts then set_of_with ts else
        (if next_is Pointer ts then pointer_with ts else proc_type_at ts))))

-- a type and a field list, where so many levels are left
unfoldable mutual
  pub type_at : ℕ → Read TypeExpr
  type_at zero ts = at_depth tell (begins_type ts) ts
  type_at (suc n) ts = inner_type (factor_at n) (type_at n) (field_at n) ts

  pub field_at : ℕ → Read FieldList
  field_at zero ts = at_depth tell (begins_field ts) ts
  field_at (suc n) ts = inner_field (factor_at n) (type_at n) (field_at n) ts
