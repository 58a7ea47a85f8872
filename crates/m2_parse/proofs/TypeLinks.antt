-- The readers of types read what the grammar says.
use Rattle.std.proofs.Common.{ℕ, zero, suc, true, List, [], ◌∷◌, Some, refl, ap, ◌∙◌, map}
use Rattle.ll_grammar.specs.Grammar.{◌⨾◌, optional}
use Rattle.ll_grammar.specs.Derivations.{both}
use Rattle.ll_grammar.specs.Readers.{itself, all}
use Rattle.ll_grammar.proofs.Link.{Reads, Is, weaker, seq, final, either, no_part, deeper, at_limit, a_kind, next_starts, next_in_starts}
use Rattle.ll_grammar.proofs.Repetitions.{list_read}
use Rattle.m2_base.specs.declared.kind.TokenKind.TheVariants.{Identifier, LeftParenthesis, RightParenthesis, LeftBracket, Array, Of, Record, End, Set, Pointer, To, Procedure, Var, Case, Colon, Else, Comma, Bar}
use Rattle.m2_base.specs.declared.token.Token.{Token}
use Rattle.m2_base.specs.KindNumbers.{kind_number}
use Rattle.m2_base.specs.Grammar as rules
use Rattle.m2_base.specs.Grammar.{grammar, a, list, ◌∣◌}
use Rattle.m2_base.specs.Trees as trees
use Rattle.m2_base.specs.Trees.{TypeExpr, FieldList}
use Rattle.m2_base.specs.TypesOf as of
use Rattle.m2_base.proofs.GrammarChecks.{is_ll1}
use Rattle.m2_parse.specs.Reading.{Read, tell, next_is}
use Rattle.m2_parse.specs.ReadExpressions.{begins_expr, factor_starts, factor_at}
use Rattle.m2_parse.specs.ReadTypes as at
use Rattle.m2_parse.specs.ReadTypes.{begins_type, begins_field, begins_formal, begins_simple, type_at, field_at}
use Rattle.m2_parse.proofs.NameLinks.{ident_read, idents_read, qual_read}
use Rattle.m2_parse.proofs.ExpressionLinks.{expr_read, labels_read, factor_read}

module _ (n : ℕ) where
  pub by_reference_read : (ts : List Token) → Reads grammar tell rules.by_reference (Is of.is_there) n ts (at.by_reference_at ts)
  unfolding at.by_reference_at
  by_reference_read ts = either (next_is Var ts) (next_starts grammar 47 ts) (final (λ p. true) (a_kind 47 ts) (λ p dp ep. refl)) (no_part refl)

  pub open_array_read : (ts : List Token) → Reads grammar tell rules.open_array (Is of.is_there) n ts (at.open_array_at ts)
  unfolding at.open_array_at
  open_array_read ts =
      either (next_is Array ts) (next_starts grammar 11 ts)
      (seq (a_kind 11 ts) (λ p dp ep. final (λ q. true) (a_kind 34 p.1) (λ q dq eq. refl)))
      (no_part refl)

  formal_read : (ts : List Token) → Reads grammar tell rules.formal (Is of.formal_of) n ts (at.formal_at ts)
  unfolding at.formal_at
  formal_read ts =
      seq (by_reference_read ts) (λ v dv h.
      seq (open_array_read v.1) (λ o do_tree k.
      final (λ q. record { by_ref = v.0; is_open = o.0; of = q.0 }) (qual_read n o.1) (λ q dq m. (λ j. record { by_ref = h j; is_open = k j; of = m j }))))

  some_formals_read : (ts : List Token) → Reads grammar tell (list rules.formal Comma) (Is of.some_formals_of) n ts (at.some_formals_at ts)
  some_formals_read ts =
      list_read is_ll1 56 (λ d w. of.some_formals_of d) (λ d w. of.more_formals_of d) itself (λ w. refl) (λ s d ds w. refl) (λ d ds w. refl) formal_read ts

  formal_list_read : (ts : List Token) → Reads grammar tell (optional (list rules.formal Comma)) (Is of.formal_list_of) n ts (at.formal_list_at ts)
  unfolding at.formal_list_at
  formal_list_read ts =
      either (begins_formal ts) (next_in_starts grammar (map kind_number (Var ∷ Array ∷ Identifier ∷ [])) ts)
      (weaker (λ x d w h. h) (some_formals_read ts)) (no_part refl)

  pub result_read : (ts : List Token) → Reads grammar tell rules.result (Is of.result_of) n ts (at.result_at ts)
  unfolding at.result_at
  result_read ts =
      either (next_is Colon ts) (next_starts grammar 69 ts)
      (seq (a_kind 69 ts) (λ p dp ep. final (λ q. Some q.0) (qual_read n p.1) (λ q dq h. ap (λ x. Some x) h)))
      (no_part refl)

  formals_read : (ts : List Token) → Reads grammar tell rules.formals (Is of.formals_of) n ts (at.formals_at ts)
  unfolding at.formals_at
  formals_read ts =
      either (next_is LeftParenthesis ts) (next_starts grammar 58 ts)
      (seq (a_kind 58 ts) (λ p dp ep.
      seq (formal_list_read p.1) (λ fs dfs h.
      seq (a_kind 70 fs.1) (λ q dq eq.
      final (λ r. trees.proc_type fs.0 r.0) (result_read q.1) (λ r dr k. (λ j. trees.proc_type (h j) (k j)))))))
      (no_part refl)

  range_read : (ts : List Token) → Reads grammar tell rules.range (Is of.range_of) n ts (at.range_with (factor_at n) ts)
  unfolding at.range_with
  range_read ts =
      seq (a_kind 59 ts) (λ p dp ep.
      seq (expr_read n (factor_at n) (factor_read n) p.1) (λ e de h.
      seq (a_kind 68 e.1) (λ d dd ed.
      seq (expr_read n (factor_at n) (factor_read n) d.1) (λ f df k.
      final (λ q. (p.0.at, e.0, f.0)) (a_kind 71 f.1) (λ q dq eq.
      ap (λ z. of.range_of (both z (both de (both dd (both df dq))))) ep ∙ (λ j. (p.0.at, h j, k j)))))))

  optional_range_read : (ts : List Token) → Reads grammar tell (optional rules.range) (Is of.optional_range_of) n ts (at.optional_range_with (factor_at n) ts)
  unfolding at.optional_range_with
  optional_range_read ts =
      either (next_is LeftBracket ts) (next_starts grammar 59 ts)
      (final (λ r. Some r.0) (range_read ts) (λ r dr h. ap (λ x. Some x) h))
      (no_part refl)

  named_read : (ts : List Token) → Reads grammar tell (rules.qual ⨾ optional rules.range) (Is of.named_of) n ts (at.named_with (factor_at n) ts)
  unfolding at.named_with
  named_read ts =
      seq (qual_read n ts) (λ q dq h.
      final (λ r. of.named q.0 r.0) (optional_range_read q.1) (λ r dr k. (λ j. of.named (h j) (k j))))

  enumeration_read : (ts : List Token) → Reads grammar tell (a LeftParenthesis ⨾ rules.idents ⨾ a RightParenthesis) (Is of.enumeration_of) n ts (at.enumeration_at ts)
  unfolding at.enumeration_at
  enumeration_read ts =
      seq (a_kind 58 ts) (λ p dp ep.
      seq (idents_read n p.1) (λ is dis h.
      final (λ q. trees.type_expr p.0.at (trees.enum_type is.0)) (a_kind 70 is.1) (λ q dq eq.
      ap (λ z. of.enumeration_of (both z (both dis dq))) ep ∙ ap (λ x. trees.type_expr p.0.at (trees.enum_type x)) h)))

  simple_read : (ts : List Token) → Reads grammar tell rules.simple (Is of.simple_of) n ts (at.simple_with (factor_at n) ts)
  unfolding at.simple_with
  simple_read ts =
      either (next_is Identifier ts) (next_starts grammar 1 ts) (weaker (λ x d w h. h) (named_read ts))
      (either (next_is LeftParenthesis ts) (next_starts grammar 58 ts) (weaker (λ x d w h. h) (enumeration_read ts))
      (final (λ r. of.bare_range r.0) (range_read ts) (λ r dr h. ap of.bare_range h)))

  simples_read : (ts : List Token) → Reads grammar tell (list rules.simple Comma) (Is of.simples_of) n ts (at.simples_with (factor_at n) ts)
  simples_read ts =
      list_read is_ll1 56 (λ d w. of.simples_of d) (λ d w. of.more_simples_of d) itself (λ w. refl) (λ s d ds w. refl) (λ d ds w. refl) simple_read ts

  tag_read : (ts : List Token) → Reads grammar tell (optional rules.ident) (Is of.tag_of) n ts (at.tag_at ts)
  unfolding at.tag_at
  tag_read ts =
      either (next_is Identifier ts) (next_starts grammar 1 ts)
      (final (λ i. Some i.0) (ident_read n ts) (λ i di h. ap (λ x. Some x) h))
      (no_part refl)

  set_of_read : (ts : List Token) → Reads grammar tell (a Set ⨾ a Of ⨾ rules.simple) (Is of.set_of_of) n ts (at.set_of_with (factor_at n) ts)
  unfolding at.set_of_with
  set_of_read ts =
      seq (a_kind 42 ts) (λ p dp ep.
      seq (a_kind 34 p.1) (λ o do_tree eo.
      final (λ s. trees.type_expr p.0.at (trees.set_type s.0)) (simple_read o.1) (λ s ds h.
      ap (λ z. of.set_of_of (both z (both do_tree ds))) ep ∙ ap (λ x. trees.type_expr p.0.at (trees.set_type x)) h)))

  proc_type_read : (ts : List Token) → Reads grammar tell (a Procedure ⨾ rules.formals) (Is of.proc_type_of) n ts (at.proc_type_at ts)
  unfolding at.proc_type_at
  proc_type_read ts =
      seq (a_kind 37 ts) (λ p dp ep.
      final (λ fs. trees.type_expr p.0.at fs.0) (formals_read p.1) (λ fs dfs h.
      ap (λ z. of.proc_type_of (both z dfs)) ep ∙ ap (λ x. trees.type_expr p.0.at x) h))

  module _ (type_reader : Read TypeExpr) (type_reads : (ts : List Token) → Reads grammar tell rules.type_expr (Is of.type_of) n ts (type_reader ts))
      (field_reader : Read FieldList) (field_reads : (ts : List Token) → Reads grammar tell (rules.one_field) (Is of.field_of) n ts (field_reader ts)) where
    optional_field_read : (ts : List Token) → Reads grammar tell rules.field_list (Is of.optional_field_of) n ts (at.optional_field_with (factor_at n) type_reader field_reader ts)
    unfolding at.optional_field_with
    optional_field_read ts =
        either (begins_field ts) (next_in_starts grammar (map kind_number (Identifier ∷ Case ∷ [])) ts)
        (final (λ f. f.0 ∷ []) (field_reads ts) (λ f df h. ap (λ x. x ∷ []) h))
        (no_part refl)

    fields_read : (ts : List Token) → Reads grammar tell rules.fields (Is of.fields_of) n ts (at.fields_with (factor_at n) type_reader field_reader ts)
    fields_read ts =
        list_read is_ll1 57 (λ d w. of.fields_of d) (λ d w. of.more_fields_of d) all (λ w. refl) (λ s d ds w. refl) (λ d ds w. refl) optional_field_read ts

    variant_read : (ts : List Token) → Reads grammar tell rules.variant (Is of.variant_of) n ts (at.variant_with (factor_at n) type_reader field_reader ts)
    unfolding at.variant_with
    variant_read ts =
        either (begins_expr ts) (next_in_starts grammar (50 ∷ 51 ∷ map kind_number factor_starts) ts)
        (seq (labels_read n (factor_at n) (factor_read n) ts) (λ ls dls h.
        seq (a_kind 69 ls.1) (λ c dc ec.
        final (λ fs. trees.variant_arm (trees.labels ls.0) (trees.field_lists fs.0) ∷ []) (fields_read c.1) (λ fs dfs k.
        (λ j. trees.variant_arm (trees.labels (h j)) (trees.field_lists (k j)) ∷ [])))))
        (no_part refl)

    variants_read : (ts : List Token) → Reads grammar tell (list rules.variant Bar) (Is of.variants_of) n ts (at.variants_with (factor_at n) type_reader field_reader ts)
    variants_read ts =
        list_read is_ll1 73 (λ d w. of.variants_of d) (λ d w. of.more_variants_of d) all (λ w. refl) (λ s d ds w. refl) (λ d ds w. refl) variant_read ts

    other_fields_read : (ts : List Token) → Reads grammar tell rules.other_fields (Is of.other_fields_of) n ts (at.other_fields_with (factor_at n) type_reader field_reader ts)
    unfolding at.other_fields_with
    other_fields_read ts =
        either (next_is Else ts) (next_starts grammar 19 ts)
        (seq (a_kind 19 ts) (λ p dp ep. final (λ fs. fs.0) (fields_read p.1) (λ fs dfs h. h)))
        (no_part refl)

    plain_fields_read : (ts : List Token) → Reads grammar tell (rules.idents ⨾ a Colon ⨾ rules.type_expr) (Is of.plain_fields_of) n ts (at.plain_fields_with (factor_at n) type_reader field_reader ts)
    unfolding at.plain_fields_with
    plain_fields_read ts =
        seq (idents_read n ts) (λ is dis h.
        seq (a_kind 69 is.1) (λ c dc ec.
        final (λ d. trees.plain_fields is.0 d.0) (type_reads c.1) (λ d dd k. (λ j. trees.plain_fields (h j) (k j)))))

    case_fields_read : (ts : List Token) → Reads grammar tell rules.case_fields_rule (Is of.case_fields_of) n ts (at.case_fields_with (factor_at n) type_reader field_reader ts)
    unfolding at.case_fields_with
    case_fields_read ts =
        seq (a_kind 14 ts) (λ k dk ek.
        seq (tag_read k.1) (λ tag dtag ht.
        seq (a_kind 69 tag.1) (λ c dc ec.
        seq (qual_read n c.1) (λ q dq hq.
        seq (a_kind 34 q.1) (λ o do_tree eo.
        seq (variants_read o.1) (λ vs dvs hv.
        seq (other_fields_read vs.1) (λ other dother ho.
        final (λ e. trees.case_fields tag.0 q.0 (trees.variant_arms vs.0) (trees.field_lists other.0)) (a_kind 21 other.1) (λ e de ee.
        (λ j. trees.case_fields (ht j) (hq j) (trees.variant_arms (hv j)) (trees.field_lists (ho j)))))))))))

    inner_field_read : (ts : List Token) → Reads grammar tell rules.field_list_rule (Is of.field_rule_of) n ts (at.inner_field (factor_at n) type_reader field_reader ts)
    unfolding at.inner_field
    inner_field_read ts =
        either (next_is Identifier ts) (next_starts grammar 1 ts) (weaker (λ x d w h. h) (plain_fields_read ts)) (weaker (λ x d w h. h) (case_fields_read ts))

    array_read : (ts : List Token) → Reads grammar tell (a Array ⨾ list rules.simple Comma ⨾ a Of ⨾ rules.type_expr) (Is of.array_of) n ts (at.array_with (factor_at n) type_reader field_reader ts)
    unfolding at.array_with
    array_read ts =
        seq (a_kind 11 ts) (λ p dp ep.
        seq (simples_read p.1) (λ ss dss h.
        seq (a_kind 34 ss.1) (λ o do_tree eo.
        final (λ d. trees.type_expr p.0.at (trees.array_type (trees.type_exprs ss.0) d.0)) (type_reads o.1) (λ d dd k.
        ap (λ z. of.array_of (both z (both dss (both do_tree dd)))) ep ∙ (λ j. trees.type_expr p.0.at (trees.array_type (trees.type_exprs (h j)) (k j)))))))

    record_read : (ts : List Token) → Reads grammar tell (a Record ⨾ rules.fields ⨾ a End) (Is of.record_of) n ts (at.record_with (factor_at n) type_reader field_reader ts)
    unfolding at.record_with
    record_read ts =
        seq (a_kind 39 ts) (λ p dp ep.
        seq (fields_read p.1) (λ fs dfs h.
        final (λ e. trees.type_expr p.0.at (trees.record_type (trees.field_lists fs.0))) (a_kind 21 fs.1) (λ e de ee.
        ap (λ z. of.record_of (both z (both dfs de))) ep ∙ ap (λ x. trees.type_expr p.0.at (trees.record_type (trees.field_lists x))) h)))

    pointer_read : (ts : List Token) → Reads grammar tell (a Pointer ⨾ a To ⨾ rules.type_expr) (Is of.pointer_of) n ts (at.pointer_with (factor_at n) type_reader field_reader ts)
    unfolding at.pointer_with
    pointer_read ts =
        seq (a_kind 36 ts) (λ p dp ep.
        seq (a_kind 44 p.1) (λ o do_tree eo.
        final (λ d. trees.type_expr p.0.at (trees.pointer_type d.0)) (type_reads o.1) (λ d dd h.
        ap (λ z. of.pointer_of (both z (both do_tree dd))) ep ∙ ap (λ x. trees.type_expr p.0.at (trees.pointer_type x)) h)))

    inner_type_read : (ts : List Token) → Reads grammar tell rules.type_rule (Is of.type_rule_of) n ts (at.inner_type (factor_at n) type_reader field_reader ts)
    unfolding at.inner_type
    inner_type_read ts =
        either (begins_simple ts) (next_in_starts grammar (1 ∷ 58 ∷ 59 ∷ []) ts) (weaker (λ x d w h. h) (simple_read ts))
        (either (next_is Array ts) (next_starts grammar 11 ts) (weaker (λ x d w h. h) (array_read ts))
        (either (next_is Record ts) (next_starts grammar 39 ts) (weaker (λ x d w h. h) (record_read ts))
        (either (next_is Set ts) (next_starts grammar 42 ts) (weaker (λ x d w h. h) (set_of_read ts))
        (either (next_is Pointer ts) (next_starts grammar 36 ts) (weaker (λ x d w h. h) (pointer_read ts))
        (weaker (λ x d w h. h) (proc_type_read ts))))))

mutual
  unfolding type_at field_at

  pub type_read : (n : ℕ) (ts : List Token) → Reads grammar tell rules.type_expr (Is of.type_of) n ts (type_at n ts)
  type_read zero ts = at_limit (begins_type ts) (next_in_starts grammar (1 ∷ 58 ∷ 59 ∷ 11 ∷ 39 ∷ 42 ∷ 36 ∷ 37 ∷ []) ts)
  type_read (suc n) ts = deeper (inner_type_read n (type_at n) (type_read n) (field_at n) (field_read n) ts)

  pub field_read : (n : ℕ) (ts : List Token) → Reads grammar tell rules.one_field (Is of.field_of) n ts (field_at n ts)
  field_read zero ts = at_limit (begins_field ts) (next_in_starts grammar (1 ∷ 14 ∷ []) ts)
  field_read (suc n) ts = deeper (inner_field_read n (type_at n) (type_read n) (field_at n) (field_read n) ts)
