-- The types of derivations over tokens of which each has a property, as a leaf: each of their leaves has it.
use Rattle.std.specs.Prelude.{List, [], ◌∷◌, ◌++◌, Option, Some, None}
use Rattle.ll_grammar.specs.Derivations.{Tree, Derives, of_empty, of_token, of_then, of_left, of_right, of_last, of_more, of_deep}
use Rattle.ll_grammar.specs.Grammar.{many, optional, ◌⨾◌}
use Rattle.m2_base.specs.ExpressionsOf as of
use Rattle.m2_base.specs.Grammar as rules
use Rattle.m2_base.specs.Grammar.{grammar}
use Rattle.m2_base.specs.Lists.{Each}
use Rattle.m2_base.specs.Statics.Leaves.{Leaf, token_leaf, ArmsHave, FieldsHave, TypesHave, ExprHas, FieldHas, NameOptionHas, QualOptionHas, QualHas, TypeHas, TypeFormHas}
use Rattle.m2_base.specs.Trees.{FieldList, Formal, Qual, VariantArm, field_lists, type_exprs, variant_arms}
use Rattle.m2_base.specs.TypesOf as types
use Rattle.m2_base.specs.declared.kind.TokenKind.TheVariants.{Bar, Comma, Semicolon}
use Rattle.m2_base.specs.declared.token.Token.{Token}
use Rattle.m2_base.proofs.LeafExpressions.{LeavesHave, after_commas, expr_leaves, labels_leaves, name_leaves, names_leaves, qual_leaves}

module _ (P : Leaf → Type 0) where
  -- the ends of a range
  abbrev pub RangeHas : types.Range → Type 0
  RangeHas r = P (token_leaf r.0) × ExprHas P r.1 × ExprHas P r.2

  -- a range, if there is one
  abbrev pub RangeOptionHas : Option types.Range → Type 0
  RangeOptionHas None = Unit {0}
  RangeOptionHas (Some r) = RangeHas r

  range_leaves : {d : Tree Token} → Derives grammar rules.range d → LeavesHave P d → RangeHas (types.range_of d)
  range_leaves (of_then (of_token m) (of_then p (of_then dots (of_then q close)))) r = (r.0.place, expr_leaves P p r.1.0, expr_leaves P q r.1.1.1.0)

  optional_range_leaves : {d : Tree Token} → Derives grammar (optional rules.range) d → LeavesHave P d → RangeOptionHas (types.optional_range_of d)
  optional_range_leaves (of_left p) r = range_leaves p r
  optional_range_leaves (of_right of_empty) r = tt

  first_leaf : {d : Tree Token} → Derives grammar rules.qual d → LeavesHave P d → P (token_leaf (of.qual_of d).first.at)
  first_leaf (of_then (of_token m) second) r = r.0.place

  named_leaves : (q : Qual) (range : Option types.Range) → P (token_leaf q.first.at) → QualHas P q → RangeOptionHas range → TypeHas P (types.named q range)
  named_leaves q None h p r = (h, p)
  named_leaves q (Some range) h p r = (h, (p, r.1, r.2))

  simple_leaves : {d : Tree Token} → Derives grammar rules.simple d → LeavesHave P d → TypeHas P (types.simple_of d)
  simple_leaves (of_left (of_then {d = d} {e = e} p q)) r = named_leaves (of.qual_of d) (types.optional_range_of e) (first_leaf p r.0) (qual_leaves P p r.0) (optional_range_leaves q r.1)
  simple_leaves (of_right (of_left (of_then (of_token m) (of_then p close)))) r = (r.0.place, names_leaves P p r.1.0)
  simple_leaves (of_right (of_right p)) r = let ends = range_leaves p r in (ends.0, (tt, ends.1, ends.2))

  more_simples_leaves : {d : Tree Token} → Derives grammar (after_commas rules.simple) d → LeavesHave P d → TypesHave P (type_exprs (types.more_simples_of d))
  more_simples_leaves of_last r = tt
  more_simples_leaves (of_more (of_then comma p) q) r = (simple_leaves p r.0.1, more_simples_leaves q r.1)

  simples_leaves : {d : Tree Token} → Derives grammar (rules.list rules.simple Comma) d → LeavesHave P d → TypesHave P (type_exprs (types.simples_of d))
  simples_leaves (of_then p q) r = (simple_leaves p r.0, more_simples_leaves q r.1)

  pub result_leaves : {d : Tree Token} → Derives grammar rules.result d → LeavesHave P d → QualOptionHas P (types.result_of d)
  result_leaves (of_left (of_then colon p)) r = qual_leaves P p r.1
  result_leaves (of_right of_empty) r = tt

  -- the type of a formal parameter
  abbrev FormalHas : Formal → Type 0
  FormalHas f = QualHas P f.of

  formal_leaves : {d : Tree Token} → Derives grammar rules.formal d → LeavesHave P d → FormalHas (types.formal_of d)
  formal_leaves (of_then by_ref (of_then is_open p)) r = qual_leaves P p r.1.1

  more_formals_leaves : {d : Tree Token} → Derives grammar (after_commas rules.formal) d → LeavesHave P d → Each FormalHas (types.more_formals_of d)
  more_formals_leaves of_last r = tt
  more_formals_leaves (of_more (of_then comma p) q) r = (formal_leaves p r.0.1, more_formals_leaves q r.1)

  formal_list_leaves : {d : Tree Token} → Derives grammar (optional (rules.list rules.formal Comma)) d → LeavesHave P d → Each FormalHas (types.formal_list_of d)
  formal_list_leaves (of_left (of_then p q)) r = (formal_leaves p r.0, more_formals_leaves q r.1)
  formal_list_leaves (of_right of_empty) r = tt

  formals_leaves : {d : Tree Token} → Derives grammar rules.formals d → LeavesHave P d → TypeFormHas P (types.formals_of d)
  formals_leaves (of_left (of_then opening (of_then p (of_then close q)))) r = (formal_list_leaves p r.1.0, result_leaves q r.1.1.1)
  formals_leaves (of_right of_empty) r = (tt, tt)

  tag_leaves : {d : Tree Token} → Derives grammar (optional rules.ident) d → LeavesHave P d → NameOptionHas P (types.tag_of d)
  tag_leaves (of_left p) r = name_leaves P p r
  tag_leaves (of_right of_empty) r = tt

  fields_join : (fs gs : List FieldList) → FieldsHave P (field_lists fs) → FieldsHave P (field_lists gs) → FieldsHave P (field_lists (fs ++ gs))
  fields_join [] gs p q = q
  fields_join (f ∷ fs) gs p q = (p.0, fields_join fs gs p.1 q)

  arms_join : (vs ws : List VariantArm) → ArmsHave P (variant_arms vs) → ArmsHave P (variant_arms ws) → ArmsHave P (variant_arms (vs ++ ws))
  arms_join [] ws p q = q
  arms_join (v ∷ vs) ws p q = (p.0, arms_join vs ws p.1 q)

  mutual
    pub type_leaves : {d : Tree Token} → Derives grammar rules.type_expr d → LeavesHave P d → TypeHas P (types.type_of d)
    type_leaves (of_deep p) r = type_rule_leaves p r

    type_rule_leaves : {d : Tree Token} → Derives grammar rules.type_rule d → LeavesHave P d → TypeHas P (types.type_rule_of d)
    type_rule_leaves (of_left p) r = simple_leaves p r
    type_rule_leaves (of_right (of_left (of_then (of_token m) (of_then p (of_then of q))))) r = (r.0.place, (simples_leaves p r.1.0, type_leaves q r.1.1.1))
    type_rule_leaves (of_right (of_right (of_left (of_then (of_token m) (of_then p end))))) r = (r.0.place, fields_leaves p r.1.0)
    type_rule_leaves (of_right (of_right (of_right (of_left (of_then (of_token m) (of_then of p)))))) r = (r.0.place, simple_leaves p r.1.1)
    type_rule_leaves (of_right (of_right (of_right (of_right (of_left (of_then (of_token m) (of_then to p))))))) r = (r.0.place, type_leaves p r.1.1)
    type_rule_leaves (of_right (of_right (of_right (of_right (of_right (of_then (of_token m) p)))))) r = (r.0.place, formals_leaves p r.1)

    fields_leaves : {d : Tree Token} → Derives grammar rules.fields d → LeavesHave P d → FieldsHave P (field_lists (types.fields_of d))
    fields_leaves (of_then {d = d} {e = e} p q) r = fields_join (types.optional_field_of d) (types.more_fields_of e) (optional_field_leaves p r.0) (more_fields_leaves q r.1)

    more_fields_leaves : {d : Tree Token} → Derives grammar (many (rules.a Semicolon ⨾ rules.field_list)) d → LeavesHave P d → FieldsHave P (field_lists (types.more_fields_of d))
    more_fields_leaves of_last r = tt
    more_fields_leaves (of_more {ds = ds} (of_then {e = e} semicolon p) q) r = fields_join (types.optional_field_of e) (types.more_fields_of ds) (optional_field_leaves p r.0.1) (more_fields_leaves q r.1)

    optional_field_leaves : {d : Tree Token} → Derives grammar rules.field_list d → LeavesHave P d → FieldsHave P (field_lists (types.optional_field_of d))
    optional_field_leaves (of_left p) r = (field_leaves p r, tt)
    optional_field_leaves (of_right of_empty) r = tt

    field_leaves : {d : Tree Token} → Derives grammar rules.one_field d → LeavesHave P d → FieldHas P (types.field_of d)
    field_leaves (of_deep p) r = field_rule_leaves p r

    field_rule_leaves : {d : Tree Token} → Derives grammar rules.field_list_rule d → LeavesHave P d → FieldHas P (types.field_rule_of d)
    field_rule_leaves (of_left (of_then p (of_then colon q))) r = (names_leaves P p r.0, type_leaves q r.1.1)
    field_rule_leaves (of_right p) r = case_leaves p r

    case_leaves : {d : Tree Token} → Derives grammar rules.case_fields_rule d → LeavesHave P d → FieldHas P (types.case_fields_of d)
    case_leaves (of_then case (of_then tag (of_then colon (of_then of (of_then of_word (of_then vs (of_then other end))))))) r =
        (tag_leaves tag r.1.0, qual_leaves P of r.1.1.1.0, variants_leaves vs r.1.1.1.1.1.0, other_fields_leaves other r.1.1.1.1.1.1.0)

    variants_leaves : {d : Tree Token} → Derives grammar (rules.list rules.variant Bar) d → LeavesHave P d → ArmsHave P (variant_arms (types.variants_of d))
    variants_leaves (of_then {d = d} {e = e} p q) r = arms_join (types.variant_of d) (types.more_variants_of e) (variant_leaves p r.0) (more_variants_leaves q r.1)

    more_variants_leaves : {d : Tree Token} → Derives grammar (many (rules.a Bar ⨾ rules.variant)) d → LeavesHave P d → ArmsHave P (variant_arms (types.more_variants_of d))
    more_variants_leaves of_last r = tt
    more_variants_leaves (of_more {ds = ds} (of_then {e = e} bar p) q) r = arms_join (types.variant_of e) (types.more_variants_of ds) (variant_leaves p r.0.1) (more_variants_leaves q r.1)

    variant_leaves : {d : Tree Token} → Derives grammar rules.variant d → LeavesHave P d → ArmsHave P (variant_arms (types.variant_of d))
    variant_leaves (of_left (of_then p (of_then colon q))) r = ((labels_leaves P p r.0, fields_leaves q r.1.1), tt)
    variant_leaves (of_right of_empty) r = tt

    other_fields_leaves : {d : Tree Token} → Derives grammar rules.other_fields d → LeavesHave P d → FieldsHave P (field_lists (types.other_fields_of d))
    other_fields_leaves (of_left (of_then else p)) r = fields_leaves p r.1
    other_fields_leaves (of_right of_empty) r = tt
