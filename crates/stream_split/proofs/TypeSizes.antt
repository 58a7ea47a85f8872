-- A type expression has no more rows than tokens with which a row may come.
use Rattle.std.proofs.Common.{◌≡◌, ◌∙◌, ℕ, Bool, true, false, List, [], ◌∷◌, ◌++◌, refl, sym, ap, cond, filter, length, length-append, ◌≤◌, ◌+◌, arith, map, flat_map}
use Rattle.std.proofs.lemmas.List.{length-map}
use Rattle.std.proofs.lemmas.List.Elements.{filter-append}
use Rattle.m2_base.specs.declared.kind.TokenKind.{TokenKind}
use Rattle.m2_base.specs.declared.kind.TokenKind.TheVariants.{Comma, Semicolon, Bar}
use Rattle.m2_base.specs.declared.kind.TokenKind.TheVariants as kinds
use Rattle.m2_base.specs.declared.token.Token.{Token}
use Rattle.m2_base.specs.ExpressionsOf.{idents_of, more_idents_of, qual_of}
use Rattle.m2_base.specs.Grammar.{grammar, a, ident, idents, qual, open_array, formal, formals, simple, type_rule, fields, field_list, one_field, field_list_rule, variant, other_fields}
use Rattle.m2_base.specs.KindNumbers.{kind_number}
use Rattle.m2_base.specs.Rows.{const_kind, param_kind, record_kind, set_kind, pointer_kind, field_kind, proc_type_kind}
use Rattle.m2_base.specs.Statics.Shapes.{nameless, named, open_shapes, formal_shapes, tag_shapes, array_shapes, type_shapes, form_shapes, types_shapes, fields_shapes, field_shapes, arms_shapes, arm_shapes}
use Rattle.m2_base.specs.declared.trees.Ident.{Ident}
use Rattle.m2_base.specs.declared.trees.Qual.{Qual}
use Rattle.m2_base.specs.Trees.{FieldList, VariantArm, type_exprs, field_lists, variant_arms}
use Rattle.m2_base.specs.TypesOf.{is_there, simple_of, simples_of, more_simples_of, formal_of, formal_list_of, more_formals_of, formals_of, type_of, type_rule_of, fields_of, more_fields_of, optional_field_of, field_rule_of, tag_of, variants_of, more_variants_of, variant_of, other_fields_of}
use Rattle.ll_grammar.specs.Derivations.{Tree, nothing, leaf, both, left, right, last, more, inner, part, tokens, Derives, of_empty, of_token, of_then, of_left, of_right, of_last, of_more, of_deep}
use Rattle.ll_grammar.specs.Grammar.{many, optional, ◌⨾◌}
use Rattle.ll_grammar.specs.LookAhead.{member}
use Rattle.m2_base.specs.Grammar as rules
use Rattle.stream_split.specs.Sizes.{may_make_row, rows_with}
use Rattle.stream_split.proofs.Flow.{one_is}

-- ** Tokens of a derivation

-- how many tokens a derivation spells
abbrev pub size : Tree Token → ℕ
size nothing = 0
size (leaf t) = 1
size (both d e) = size d + size e
size (left d) = size d
size (right d) = size d
size last = 0
size (more d ds) = size d + size ds
size (inner d) = size d
size (part d) = size d

pub size_is : (d : Tree Token) → size d ≡ length (tokens d)
size_is nothing = refl
size_is (leaf t) = refl
size_is (both d e) = let i = size_is d in let j = size_is e in let l = length-append (tokens d) (tokens e) in omega (arith, i, j, l)
size_is (left d) = size_is d
size_is (right d) = size_is d
size_is last = refl
size_is (more d ds) = let i = size_is d in let j = size_is ds in let l = length-append (tokens d) (tokens ds) in omega (arith, i, j, l)
size_is (inner d) = size_is d
size_is (part d) = size_is d

-- a token with which a row may come counts
unfoldable pub maker : TokenKind → ℕ
maker k = cond (may_make_row k) 1 0

-- with how many of them a row may come
abbrev pub makers : Tree Token → ℕ
makers nothing = 0
makers (leaf t) = maker t.kind
makers (both d e) = makers d + makers e
makers (left d) = makers d
makers (right d) = makers d
makers last = 0
makers (more d ds) = makers d + makers ds
makers (inner d) = makers d
makers (part d) = makers d

pub rows_append : (xs ys : List Token) → rows_with (xs ++ ys) ≡ rows_with xs + rows_with ys
rows_append xs ys =
    let i = ap length (filter-append (λ (t : Token). may_make_row t.kind) xs ys) in
    let j = length-append (filter (λ (t : Token). may_make_row t.kind) xs) (filter (λ (t : Token). may_make_row t.kind) ys) in
    omega (arith, i, j)

rows_one : (t : Token) → maker t.kind ≡ rows_with (t ∷ [])
unfolding maker
rows_one t = by (may_make_row t.kind)
  where
    by : (b : Bool) → cond b 1 0 ≡ length (cond b (t ∷ []) [])
    by true = refl
    by false = refl

pub makers_are : (d : Tree Token) → makers d ≡ rows_with (tokens d)
makers_are nothing = refl
makers_are (leaf t) = rows_one t
makers_are (both d e) = let i = makers_are d in let j = makers_are e in let l = rows_append (tokens d) (tokens e) in omega (arith, i, j, l)
makers_are (left d) = makers_are d
makers_are (right d) = makers_are d
makers_are last = refl
makers_are (more d ds) = let i = makers_are d in let j = makers_are ds in let l = rows_append (tokens d) (tokens ds) in omega (arith, i, j, l)
makers_are (inner d) = makers_are d
makers_are (part d) = makers_are d

maker_few : (k : TokenKind) → maker k ≤ 1
unfolding maker
maker_few k = by (may_make_row k)
  where
    by : (b : Bool) → cond b 1 0 ≤ 1
    by true = omega arith
    by false = omega arith

makers_few : (d : Tree Token) → makers d ≤ size d
makers_few nothing = omega arith
makers_few (leaf t) = maker_few t.kind
makers_few (both d e) = let i = makers_few d in let j = makers_few e in omega (arith, i, j)
makers_few (left d) = makers_few d
makers_few (right d) = makers_few d
makers_few last = omega arith
makers_few (more d ds) = let i = makers_few d in let j = makers_few ds in omega (arith, i, j)
makers_few (inner d) = makers_few d
makers_few (part d) = makers_few d

-- whether a row may come with a token, by the number of its kind
unfoldable made_with : ℕ → Bool
made_with k = member k (map kind_number (kinds.Identifier ∷ Comma ∷ Semicolon ∷ kinds.LeftParenthesis ∷ kinds.LeftBracket ∷ kinds.Array ∷ kinds.Pointer ∷ kinds.Procedure ∷ kinds.Record ∷ kinds.Set ∷ []))

made_is : (k : TokenKind) → made_with (kind_number k) ≡ may_make_row k
unfolding made_with
made_is kinds.EndOfText = refl
made_is k = refl

-- a token of such a kind
pub one_made : (w : TokenKind) → may_make_row w ≡ true → (k : TokenKind) → member (kind_number k) (kind_number w ∷ []) ≡ true → maker k ≡ 1
unfolding maker
one_made w e k g = ap (λ b. cond b 1 0) (sym (made_is k) ∙ ap made_with (one_is (kind_number k) (kind_number w) g) ∙ made_is w ∙ e)

pub name_made : (k : TokenKind) → member (kind_number k) (kind_number kinds.Identifier ∷ []) ≡ true → maker k ≡ 1
name_made k g = one_made kinds.Identifier refl k g

-- ** Names and qualified names

more_idents_made : {d : Tree Token} → Derives grammar (many (a Comma ⨾ ident)) d → length (more_idents_of d) ≤ makers d
more_idents_made of_last = omega arith
more_idents_made (of_more (of_then (of_token g) (of_token {t = t} h)) k) = let i = more_idents_made k in let n = name_made t.kind h in omega (arith, i, n)

pub idents_made : {d : Tree Token} → Derives grammar idents d → length (idents_of d) ≤ makers d
idents_made (of_then (of_token {t = t} g) k) = let i = more_idents_made k in let n = name_made t.kind g in omega (arith, i, n)

pub idents_size : {d : Tree Token} → Derives grammar idents d → length (idents_of d) ≤ size d
idents_size {d} h = let i = idents_made h in let j = makers_few d in omega (arith, i, j)

qual_made : {d : Tree Token} → Derives grammar qual d → 1 ≤ makers d
qual_made (of_then (of_token {t = t} g) k) = let n = name_made t.kind g in omega (arith, n)

pub open_made : {d : Tree Token} → Derives grammar open_array d → (q : Qual) → length (open_shapes (is_there d) q) ≤ makers d
open_made (of_left (of_then (of_token {t = t} g) (of_token h))) q = let n = one_made kinds.Array refl t.kind g in omega (arith, n)
open_made (of_right of_empty) q = omega arith

-- ** Types

formal_made : {d : Tree Token} → Derives grammar formal d → length (formal_shapes (formal_of d)) ≤ makers d
formal_made (of_then v (of_then {d = o} {e = q} h k)) =
    let i = open_made h (qual_of q) in
    let j = qual_made k in
    let l = length-append (open_shapes (is_there o) (qual_of q)) (nameless param_kind (qual_of q).first.at ∷ []) in
    omega (arith, i, j, l)

more_formals_made : {d : Tree Token} → Derives grammar (many (a Comma ⨾ formal)) d → length (flat_map formal_shapes (more_formals_of d)) ≤ makers d
more_formals_made of_last = omega arith
more_formals_made (of_more {ds = fs} (of_then {e = f} (of_token g) h) k) =
    let i = formal_made h in
    let j = more_formals_made k in
    let l = length-append (formal_shapes (formal_of f)) (flat_map formal_shapes (more_formals_of fs)) in
    omega (arith, i, j, l)

formal_list_made : {d : Tree Token} → Derives grammar (optional (rules.list formal Comma)) d → length (flat_map formal_shapes (formal_list_of d)) ≤ makers d
formal_list_made (of_left (of_then {d = f} {e = fs} h k)) =
    let i = formal_made h in
    let j = more_formals_made k in
    let l = length-append (formal_shapes (formal_of f)) (flat_map formal_shapes (more_formals_of fs)) in
    omega (arith, i, j, l)
formal_list_made (of_right of_empty) = omega arith

formals_made : {d : Tree Token} → Derives grammar formals d → (at : ℕ) → length (form_shapes at (formals_of d)) ≤ makers d + 1
formals_made (of_left (of_then (of_token g) (of_then {d = fs} h (of_then (of_token z) k)))) at =
    let i = formal_list_made h in
    let l = length-append (flat_map formal_shapes (formal_list_of fs)) (nameless proc_type_kind at ∷ []) in
    omega (arith, i, l)
formals_made (of_right of_empty) at = omega arith

simple_made : {d : Tree Token} → Derives grammar simple d → length (type_shapes (simple_of d)) ≤ makers d
simple_made (of_left (of_then h (of_left k))) = let i = qual_made h in omega (arith, i)
simple_made (of_left (of_then h (of_right of_empty))) = omega arith
simple_made (of_right (of_left (of_then (of_token {t = t} g) (of_then {d = is} h (of_token k))))) =
    let i = idents_made h in
    let n = one_made kinds.LeftParenthesis refl t.kind g in
    let l = length-map (idents_of is) (named const_kind) in
    omega (arith, i, n, l)
simple_made (of_right (of_right (of_then (of_token {t = t} g) k))) = let n = one_made kinds.LeftBracket refl t.kind g in omega (arith, n)

more_simples_made : {d : Tree Token} → Derives grammar (many (a Comma ⨾ simple)) d → (at : ℕ)
    → length (types_shapes (type_exprs (more_simples_of d))) + length (array_shapes at (type_exprs (more_simples_of d))) ≤ makers d
more_simples_made of_last at = omega arith
more_simples_made (of_more {ds = ss} (of_then {e = s} (of_token {t = t} g) h) k) at =
    let i = simple_made h in
    let j = more_simples_made k at in
    let n = one_made Comma refl t.kind g in
    let l = length-append (type_shapes (simple_of s)) (types_shapes (type_exprs (more_simples_of ss))) in
    omega (arith, i, j, n, l)

simples_made : {d : Tree Token} → Derives grammar (rules.list simple Comma) d → (at : ℕ)
    → length (types_shapes (type_exprs (simples_of d))) + length (array_shapes at (type_exprs (simples_of d))) ≤ makers d + 1
simples_made (of_then {d = s} {e = ss} h k) at =
    let i = simple_made h in
    let j = more_simples_made k at in
    let l = length-append (type_shapes (simple_of s)) (types_shapes (type_exprs (more_simples_of ss))) in
    omega (arith, i, j, l)

-- the rows of one list of fields, or of variants, behind another
fields_append : (xs ys : List FieldList)
    → length (fields_shapes (field_lists (xs ++ ys))) ≡ length (fields_shapes (field_lists xs)) + length (fields_shapes (field_lists ys))
fields_append [] ys = omega arith
fields_append (x ∷ xs) ys =
    let i = fields_append xs ys in
    let l = length-append (field_shapes x) (fields_shapes (field_lists (xs ++ ys))) in
    let m = length-append (field_shapes x) (fields_shapes (field_lists xs)) in
    omega (arith, i, l, m)

arms_append : (xs ys : List VariantArm)
    → length (arms_shapes (variant_arms (xs ++ ys))) ≡ length (arms_shapes (variant_arms xs)) + length (arms_shapes (variant_arms ys))
arms_append [] ys = omega arith
arms_append (x ∷ xs) ys =
    let i = arms_append xs ys in
    let l = length-append (arm_shapes x) (arms_shapes (variant_arms (xs ++ ys))) in
    let m = length-append (arm_shapes x) (arms_shapes (variant_arms xs)) in
    omega (arith, i, l, m)

tag_made : {d : Tree Token} → Derives grammar (optional ident) d → length (tag_shapes (tag_of d)) ≤ makers d
tag_made (of_left (of_token {t = t} g)) = let n = name_made t.kind g in omega (arith, n)
tag_made (of_right of_empty) = omega arith

mutual
  pub type_made : {d : Tree Token} → Derives grammar rules.type_expr d → length (type_shapes (type_of d)) ≤ makers d
  type_made (of_deep h) = type_rule_made h

  type_rule_made : {d : Tree Token} → Derives grammar type_rule d → length (type_shapes (type_rule_of d)) ≤ makers d
  type_rule_made (of_left h) = simple_made h
  type_rule_made (of_right (of_left (of_then (of_token {t = w} g) (of_then {d = ss} h (of_then {e = t} (of_token {t = v} o) k))))) =
      let i = simples_made h w.at in
      let j = type_made k in
      let n = one_made kinds.Array refl w.kind g in
      let l = length-append (types_shapes (type_exprs (simples_of ss)) ++ type_shapes (type_of t)) (array_shapes w.at (type_exprs (simples_of ss))) in
      let m = length-append (types_shapes (type_exprs (simples_of ss))) (type_shapes (type_of t)) in
      let all : length ((types_shapes (type_exprs (simples_of ss)) ++ type_shapes (type_of t)) ++ array_shapes w.at (type_exprs (simples_of ss))) ≤ maker w.kind + (makers ss + (maker v.kind + makers t)) =
      omega (arith, i, j, n, l, m) in
      all
  type_rule_made (of_right (of_right (of_left (of_then (of_token {t = w} g) (of_then {d = fs} h (of_token {t = v} k)))))) =
      let i = fields_made h in
      let n = one_made kinds.Record refl w.kind g in
      let l = length-append (fields_shapes (field_lists (fields_of fs))) (nameless record_kind w.at ∷ []) in
      let all : length (fields_shapes (field_lists (fields_of fs)) ++ (nameless record_kind w.at ∷ [])) ≤ maker w.kind + (makers fs + maker v.kind) = omega (arith, i, n, l) in
      all
  type_rule_made (of_right (of_right (of_right (of_left (of_then (of_token {t = w} g) (of_then {e = s} (of_token {t = v} o) h)))))) =
      let i = simple_made h in
      let n = one_made kinds.Set refl w.kind g in
      let l = length-append (type_shapes (simple_of s)) (nameless set_kind w.at ∷ []) in
      let all : length (type_shapes (simple_of s) ++ (nameless set_kind w.at ∷ [])) ≤ maker w.kind + (maker v.kind + makers s) = omega (arith, i, n, l) in
      all
  type_rule_made (of_right (of_right (of_right (of_right (of_left (of_then (of_token {t = w} g) (of_then {e = t} (of_token {t = v} o) h))))))) =
      let i = type_made h in
      let n = one_made kinds.Pointer refl w.kind g in
      let l = length-append (type_shapes (type_of t)) (nameless pointer_kind w.at ∷ []) in
      let all : length (type_shapes (type_of t) ++ (nameless pointer_kind w.at ∷ [])) ≤ maker w.kind + (maker v.kind + makers t) = omega (arith, i, n, l) in
      all
  type_rule_made (of_right (of_right (of_right (of_right (of_right (of_then {e = fs} (of_token {t = w} g) h)))))) =
      let i = formals_made h w.at in
      let n = one_made kinds.Procedure refl w.kind g in
      let all : length (form_shapes w.at (formals_of fs)) ≤ maker w.kind + makers fs = omega (arith, i, n) in
      all

  fields_made : {d : Tree Token} → Derives grammar fields d → length (fields_shapes (field_lists (fields_of d))) ≤ makers d
  fields_made (of_then {d = f} {e = fs} h k) =
      let i = field_list_made h in
      let j = more_fields_made k in
      let l = fields_append (optional_field_of f) (more_fields_of fs) in
      let all : length (fields_shapes (field_lists (optional_field_of f ++ more_fields_of fs))) ≤ makers f + makers fs = omega (arith, i, j, l) in
      all

  more_fields_made : {d : Tree Token} → Derives grammar (many (a Semicolon ⨾ field_list)) d → length (fields_shapes (field_lists (more_fields_of d))) ≤ makers d
  more_fields_made of_last = let none : 0 ≤ 0 = omega arith in none
  more_fields_made (of_more {ds = fs} (of_then {e = f} (of_token {t = v} g) h) k) =
      let i = field_list_made h in
      let j = more_fields_made k in
      let l = fields_append (optional_field_of f) (more_fields_of fs) in
      let all : length (fields_shapes (field_lists (optional_field_of f ++ more_fields_of fs))) ≤ (maker v.kind + makers f) + makers fs = omega (arith, i, j, l) in
      all

  field_list_made : {d : Tree Token} → Derives grammar field_list d → length (fields_shapes (field_lists (optional_field_of d))) ≤ makers d
  field_list_made (of_left (of_deep {d = f} h)) =
      let i = field_rule_made h in
      let l = length-append (field_shapes (field_rule_of f)) [] in
      let all : length (field_shapes (field_rule_of f) ++ []) ≤ makers f = omega (arith, i, l) in
      all
  field_list_made (of_right of_empty) = let none : 0 ≤ 0 = omega arith in none

  field_rule_made : {d : Tree Token} → Derives grammar field_list_rule d → length (field_shapes (field_rule_of d)) ≤ makers d
  field_rule_made (of_left (of_then {d = is} h (of_then {e = t} (of_token {t = v} g) k))) =
      let i = idents_made h in
      let j = type_made k in
      let l = length-append (type_shapes (type_of t)) (map (λ (i : Ident). nameless field_kind i.at) (idents_of is)) in
      let m = length-map (idents_of is) (λ i. nameless field_kind i.at) in
      let all : length (type_shapes (type_of t) ++ map (λ (i : Ident). nameless field_kind i.at) (idents_of is)) ≤ makers is + (maker v.kind + makers t) = omega (arith, i, j, l, m) in
      all
  field_rule_made (of_right (of_then (of_token {t = ta} g) (of_then {d = tag} h (of_then (of_token {t = tb} o) (of_then {d = q} gq (of_then (of_token {t = tc} p) (of_then {d = vs} v (of_then {d = other} e (of_token {t = td} z))))))))) =
      let i = tag_made h in
      let j = variants_made v in
      let k = other_fields_made e in
      let l = length-append (tag_shapes (tag_of tag) ++ arms_shapes (variant_arms (variants_of vs))) (fields_shapes (field_lists (other_fields_of other))) in
      let m = length-append (tag_shapes (tag_of tag)) (arms_shapes (variant_arms (variants_of vs))) in
      let all : length ((tag_shapes (tag_of tag) ++ arms_shapes (variant_arms (variants_of vs))) ++ fields_shapes (field_lists (other_fields_of other))) ≤ maker ta.kind + (makers tag + (maker tb.kind + (makers q + (maker tc.kind + (makers vs + (makers other + maker td.kind)))))) =
      omega (arith, i, j, k, l, m) in
      all

  variants_made : {d : Tree Token} → Derives grammar (rules.list variant Bar) d → length (arms_shapes (variant_arms (variants_of d))) ≤ makers d
  variants_made (of_then {d = v} {e = vs} h k) =
      let i = variant_made h in
      let j = more_variants_made k in
      let l = arms_append (variant_of v) (more_variants_of vs) in
      let all : length (arms_shapes (variant_arms (variant_of v ++ more_variants_of vs))) ≤ makers v + makers vs = omega (arith, i, j, l) in
      all

  more_variants_made : {d : Tree Token} → Derives grammar (many (a Bar ⨾ variant)) d → length (arms_shapes (variant_arms (more_variants_of d))) ≤ makers d
  more_variants_made of_last = let none : 0 ≤ 0 = omega arith in none
  more_variants_made (of_more {ds = vs} (of_then {e = v} (of_token {t = t} g) h) k) =
      let i = variant_made h in
      let j = more_variants_made k in
      let l = arms_append (variant_of v) (more_variants_of vs) in
      let all : length (arms_shapes (variant_arms (variant_of v ++ more_variants_of vs))) ≤ (maker t.kind + makers v) + makers vs = omega (arith, i, j, l) in
      all

  variant_made : {d : Tree Token} → Derives grammar variant d → length (arms_shapes (variant_arms (variant_of d))) ≤ makers d
  variant_made (of_left (of_then {d = ls} gl (of_then {e = fs} (of_token {t = t} g) h))) =
      let i = fields_made h in
      let l = length-append (fields_shapes (field_lists (fields_of fs))) [] in
      let all : length (fields_shapes (field_lists (fields_of fs)) ++ []) ≤ makers ls + (maker t.kind + makers fs) = omega (arith, i, l) in
      all
  variant_made (of_right of_empty) = let none : 0 ≤ 0 = omega arith in none

  other_fields_made : {d : Tree Token} → Derives grammar other_fields d → length (fields_shapes (field_lists (other_fields_of d))) ≤ makers d
  other_fields_made (of_left (of_then {e = fs} (of_token {t = t} g) h)) =
      let i = fields_made h in
      let all : length (fields_shapes (field_lists (fields_of fs))) ≤ maker t.kind + makers fs = omega (arith, i) in
      all
  other_fields_made (of_right of_empty) = let none : 0 ≤ 0 = omega arith in none
