-- The expressions of derivations over tokens of which each has a property, as a leaf: each of their leaves has it.
use Rattle.std.specs.Prelude.{◌≡◌, ℕ, true, List, [], ◌∷◌, Option, Some, None, ◌==◌}
use Rattle.std.proofs.Common.{eqb-true, ⊎_elim}
use Rattle.std.proofs.lemmas.Bool.{false≢true}
use Rattle.ll_grammar.specs.Derivations.{Tree, nothing, leaf, both, left, right, last, more, inner, part, tokens, Derives, of_empty, of_token, of_then, of_left, of_right, of_last, of_more, of_deep}
use Rattle.ll_grammar.specs.Grammar.{Rule, many, ◌⨾◌}
use Rattle.ll_grammar.specs.LookAhead.{member}
use Rattle.ll_grammar.proofs.KindSets.{or_cases}
use Rattle.m2_base.specs.ExpressionsOf as of
use Rattle.m2_base.specs.Grammar as rules
use Rattle.m2_base.specs.Grammar.{grammar, number_of_token}
use Rattle.m2_base.specs.KindNumbers.{kind_number}
use Rattle.m2_base.specs.Lists.{Each}
use Rattle.m2_base.specs.Statics.Leaves.{Leaf, token_leaf, name_leaf, number_leaf, character_leaf, string_leaf, stream_leaf, ExprsHave, NamesHave, LabelsHave, NextsHave, SelectorsHave, DesignatorHas, ExprHas, NameOptionHas, LabelHas, NameHas, QualHas, SelectorHas}
use Rattle.m2_base.specs.Trees.{Expr, Next, designator_at, expr, exprs, in_brackets, label_with, labels, nexts, selectors, with_operators}
use Rattle.m2_base.specs.declared.kind.TokenKind.{TokenKind}
use Rattle.m2_base.specs.declared.kind.TokenKind.TheVariants.{Character, Comma, Cut, Identifier, Number, String}
use Rattle.m2_base.specs.declared.token.Token.{Token}
use Rattle.m2_base.proofs.EachLaws.{each_back, each_front}

-- a token of one kind has that kind
pub kind_is : (k x : ℕ) → member k (x ∷ []) ≡ true → k ≡ x
kind_is k x m = ⊎_elim (λ e. eqb-true k x e) (λ e. absurd (false≢true e)) (or_cases (k == x) _ m)

-- {"," r}
abbrev pub after_commas : Rule → Rule
after_commas r = many (rules.a Comma ⨾ r)

-- {op r}
abbrev after_operators : List TokenKind → Rule → Rule
after_operators kinds r = many (rules.any kinds ⨾ r)

module _ (P : Leaf → Type 0) where
  -- a token, and its value, where it is a name, a number, a character, a string or the cut of a procedure
  pub record TokenHas (t : Token) : Type 0 where
    pub place : P (token_leaf t.at)
    pub name : kind_number t.kind ≡ kind_number Identifier → P (name_leaf (record { name = t.value; at = t.at }))
    pub number : kind_number t.kind ≡ kind_number Number → P (number_leaf t.value)
    pub character : kind_number t.kind ≡ kind_number Character → P (character_leaf t.value)
    pub text : kind_number t.kind ≡ kind_number String → P (string_leaf t.value)
    pub cut : kind_number t.kind ≡ kind_number Cut → P (stream_leaf t.value)

  -- each token of a derivation
  abbrev pub LeavesHave : Tree Token → Type 0
  LeavesHave nothing = Unit {0}
  LeavesHave (leaf t) = TokenHas t
  LeavesHave (both d e) = LeavesHave d × LeavesHave e
  LeavesHave (left d) = LeavesHave d
  LeavesHave (right d) = LeavesHave d
  LeavesHave last = Unit {0}
  LeavesHave (more d ds) = LeavesHave d × LeavesHave ds
  LeavesHave (inner d) = LeavesHave d
  LeavesHave (part d) = LeavesHave d

  -- where the tokens that it spells have it
  pub leaves_have : (d : Tree Token) → Each TokenHas (tokens d) → LeavesHave d
  leaves_have nothing h = tt
  leaves_have (leaf t) h = h.0
  leaves_have (both d e) h = (leaves_have d (each_front TokenHas (tokens d) (tokens e) h), leaves_have e (each_back TokenHas (tokens d) (tokens e) h))
  leaves_have (left d) h = leaves_have d h
  leaves_have (right d) h = leaves_have d h
  leaves_have last h = tt
  leaves_have (more d ds) h = (leaves_have d (each_front TokenHas (tokens d) (tokens ds) h), leaves_have ds (each_back TokenHas (tokens d) (tokens ds) h))
  leaves_have (inner d) h = leaves_have d h
  leaves_have (part d) h = leaves_have d h

  pub name_leaves : {d : Tree Token} → Derives grammar rules.ident d → LeavesHave d → NameHas P (of.ident_of d)
  name_leaves (of_token {t = t} m) r = r.name (kind_is (number_of_token t) 1 m)

  more_names_leaves : {d : Tree Token} → Derives grammar (after_commas rules.ident) d → LeavesHave d → NamesHave P (of.more_idents_of d)
  more_names_leaves of_last r = tt
  more_names_leaves (of_more (of_then comma i) is) r = (name_leaves i r.0.1, more_names_leaves is r.1)

  pub names_leaves : {d : Tree Token} → Derives grammar rules.idents d → LeavesHave d → NamesHave P (of.idents_of d)
  names_leaves (of_then i is) r = (name_leaves i r.0, more_names_leaves is r.1)

  second_leaves : {d : Tree Token} → Derives grammar rules.second_name d → LeavesHave d → NameOptionHas P (of.second_of d)
  second_leaves (of_left (of_then period i)) r = name_leaves i r.1
  second_leaves (of_right of_empty) r = tt

  pub qual_leaves : {d : Tree Token} → Derives grammar rules.qual d → LeavesHave d → QualHas P (of.qual_of d)
  qual_leaves (of_then i second) r = record { first = name_leaves i r.0; second = second_leaves second r.1 }

  operators_leaves : (first : Expr) (ns : List Next) → ExprHas P first → NextsHave P (nexts ns) → ExprHas P (with_operators first ns)
  operators_leaves first [] p q = p
  operators_leaves (expr at form) (x ∷ xs) p q = (p.0, (p, q))

  bracketed_leaves : (at : ℕ) (e : Expr) → P (token_leaf at) → ExprHas P e → ExprHas P (in_brackets at e)
  bracketed_leaves at (expr inner_at form) h p = (h, p.1)

  pub first_leaf : {d : Tree Token} → Derives grammar rules.designator d → LeavesHave d → P (token_leaf (designator_at (of.designator_of d)))
  first_leaf (of_then (of_token m) p) r = r.0.place

  -- the upper end of a range, if there is one
  abbrev pub UpperHas : Option Expr → Type 0
  UpperHas None = Unit {0}
  UpperHas (Some e) = ExprHas P e

  label_leaves_with : (low : Expr) (high : Option Expr) → ExprHas P low → UpperHas high → LabelHas P (label_with low high)
  label_leaves_with low None p q = p
  label_leaves_with low (Some high) p q = (p, q)

  mutual
    pub factor_leaves : {d : Tree Token} → Derives grammar rules.factor d → LeavesHave d → ExprHas P (of.factor_of d)
    factor_leaves (of_deep p) r = factor_rule_leaves p r

    factor_rule_leaves : {d : Tree Token} → Derives grammar rules.factor_rule d → LeavesHave d → ExprHas P (of.factor_rule_of d)
    factor_rule_leaves (of_left (of_token {t = t} m)) r = (r.place, r.number (kind_is (number_of_token t) 2 m))
    factor_rule_leaves (of_right (of_left (of_token {t = t} m))) r = (r.place, r.character (kind_is (number_of_token t) 3 m))
    factor_rule_leaves (of_right (of_right (of_left (of_token {t = t} m)))) r = (r.place, r.text (kind_is (number_of_token t) 4 m))
    factor_rule_leaves (of_right (of_right (of_right (of_left p)))) r = (set_at_leaf p r, set_leaves p r)
    factor_rule_leaves (of_right (of_right (of_right (of_right (of_left p))))) r = designated_leaves p r
    factor_rule_leaves (of_right (of_right (of_right (of_right (of_right (of_left (of_then (of_token {t = t} m) (of_then {d = d} p close)))))))) r = bracketed_leaves t.at (of.expr_of d) r.0.place (expr_leaves p r.1.0)
    factor_rule_leaves (of_right (of_right (of_right (of_right (of_right (of_right (of_then (of_token m) p))))))) r = (r.0.place, (r.0.place, factor_leaves p r.1))

    designated_leaves : {d : Tree Token} → Derives grammar rules.designated d → LeavesHave d → ExprHas P (of.designated_of d)
    designated_leaves (of_then p (of_left q)) r = (first_leaf p r.0, (designator_leaves p r.0, set_leaves q r.1))
    designated_leaves (of_then p (of_right (of_left q))) r = (first_leaf p r.0, (designator_leaves p r.0, actuals_leaves q r.1))
    designated_leaves (of_then p (of_right (of_right of_empty))) r = (first_leaf p r.0, designator_leaves p r.0)

    set_at_leaf : {d : Tree Token} → Derives grammar rules.set_rule d → LeavesHave d → P (token_leaf (of.set_of d).0)
    set_at_leaf (of_then (of_token m) (of_then p close)) r = r.0.place

    pub set_leaves : {d : Tree Token} → Derives grammar rules.set_rule d → LeavesHave d → LabelsHave P (labels (of.set_of d).1)
    set_leaves (of_then (of_token m) (of_then p close)) r = elements_leaves p r.1.0

    elements_leaves : {d : Tree Token} → Derives grammar rules.elements d → LeavesHave d → LabelsHave P (labels (of.elements_of d))
    elements_leaves (of_left p) r = labels_leaves p r
    elements_leaves (of_right of_empty) r = tt

    pub actuals_leaves : {d : Tree Token} → Derives grammar rules.actuals d → LeavesHave d → ExprsHave P (exprs (of.actuals_of d))
    actuals_leaves (of_then opening (of_then p close)) r = arguments_leaves p r.1.0

    arguments_leaves : {d : Tree Token} → Derives grammar rules.arguments d → LeavesHave d → ExprsHave P (exprs (of.arguments_of d))
    arguments_leaves (of_left p) r = exprs_leaves p r
    arguments_leaves (of_right of_empty) r = tt

    pub designator_leaves : {d : Tree Token} → Derives grammar rules.designator d → LeavesHave d → DesignatorHas P (of.designator_of d)
    designator_leaves (of_then i p) r = (name_leaves i r.0, selectors_leaves p r.1)

    selectors_leaves : {d : Tree Token} → Derives grammar (many rules.selector) d → LeavesHave d → SelectorsHave P (selectors (of.selectors_of d))
    selectors_leaves of_last r = tt
    selectors_leaves (of_more p q) r = (selector_leaves p r.0, selectors_leaves q r.1)

    selector_leaves : {d : Tree Token} → Derives grammar rules.selector d → LeavesHave d → SelectorHas P (of.selector_of d)
    selector_leaves (of_left (of_then (of_token m) i)) r = (name_leaves i r.1, r.0.place)
    selector_leaves (of_right (of_left (of_then (of_token m) (of_then p close)))) r = (exprs_leaves p r.1.0, r.0.place)
    selector_leaves (of_right (of_right (of_token m))) r = r.place

    pub exprs_leaves : {d : Tree Token} → Derives grammar rules.exprs d → LeavesHave d → ExprsHave P (exprs (of.exprs_of d))
    exprs_leaves (of_then p q) r = (expr_leaves p r.0, more_exprs_leaves q r.1)

    more_exprs_leaves : {d : Tree Token} → Derives grammar (after_commas rules.expr) d → LeavesHave d → ExprsHave P (exprs (of.more_exprs_of d))
    more_exprs_leaves of_last r = tt
    more_exprs_leaves (of_more (of_then comma p) q) r = (expr_leaves p r.0.1, more_exprs_leaves q r.1)

    term_leaves : {d : Tree Token} → Derives grammar rules.term d → LeavesHave d → ExprHas P (of.term_of d)
    term_leaves (of_then {d = d} {e = e} p q) r = operators_leaves (of.factor_of d) (of.factors_of e) (factor_leaves p r.0) (factors_leaves q r.1)

    factors_leaves : {d : Tree Token} → Derives grammar (after_operators rules.multiplying rules.factor) d → LeavesHave d → NextsHave P (nexts (of.factors_of d))
    factors_leaves of_last r = tt
    factors_leaves (of_more (of_then (of_token m) p) q) r = ((r.0.0.place, factor_leaves p r.0.1), factors_leaves q r.1)

    first_term_leaves : {d : Tree Token} → Derives grammar rules.first_term d → LeavesHave d → ExprHas P (of.first_term_of d)
    first_term_leaves (of_left (of_then (of_token m) p)) r = (r.0.place, (r.0.place, term_leaves p r.1))
    first_term_leaves (of_right p) r = term_leaves p r

    sum_leaves : {d : Tree Token} → Derives grammar rules.sum d → LeavesHave d → ExprHas P (of.sum_of d)
    sum_leaves (of_then {d = d} {e = e} p q) r = operators_leaves (of.first_term_of d) (of.terms_of e) (first_term_leaves p r.0) (terms_leaves q r.1)

    terms_leaves : {d : Tree Token} → Derives grammar (after_operators rules.adding rules.term) d → LeavesHave d → NextsHave P (nexts (of.terms_of d))
    terms_leaves of_last r = tt
    terms_leaves (of_more (of_then (of_token m) p) q) r = ((r.0.0.place, term_leaves p r.0.1), terms_leaves q r.1)

    relation_leaves : {d : Tree Token} → Derives grammar rules.relation d → LeavesHave d → NextsHave P (nexts (of.relation_of d))
    relation_leaves (of_left (of_then (of_token m) p)) r = ((r.0.place, sum_leaves p r.1), tt)
    relation_leaves (of_right of_empty) r = tt

    pub expr_leaves : {d : Tree Token} → Derives grammar rules.expr d → LeavesHave d → ExprHas P (of.expr_of d)
    expr_leaves (of_then {d = d} {e = e} p q) r = operators_leaves (of.sum_of d) (of.relation_of e) (sum_leaves p r.0) (relation_leaves q r.1)

    upper_leaves : {d : Tree Token} → Derives grammar rules.upper d → LeavesHave d → UpperHas (of.upper_of d)
    upper_leaves (of_left (of_then dots p)) r = expr_leaves p r.1
    upper_leaves (of_right of_empty) r = tt

    label_leaves : {d : Tree Token} → Derives grammar rules.label d → LeavesHave d → LabelHas P (of.label_of d)
    label_leaves (of_then {d = d} {e = e} p q) r = label_leaves_with (of.expr_of d) (of.upper_of e) (expr_leaves p r.0) (upper_leaves q r.1)

    pub labels_leaves : {d : Tree Token} → Derives grammar rules.labels d → LeavesHave d → LabelsHave P (labels (of.labels_of d))
    labels_leaves (of_then p q) r = (label_leaves p r.0, more_labels_leaves q r.1)

    more_labels_leaves : {d : Tree Token} → Derives grammar (after_commas rules.label) d → LeavesHave d → LabelsHave P (labels (of.more_labels_of d))
    more_labels_leaves of_last r = tt
    more_labels_leaves (of_more (of_then comma p) q) r = (label_leaves p r.0.1, more_labels_leaves q r.1)
