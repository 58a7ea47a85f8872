-- The statements of derivations over tokens of which each has a property, as a leaf: each of their leaves has it, where the token behind
-- them has it too, at which a last empty statement stands.
use Rattle.std.specs.Prelude.{List, [], ◌∷◌, ◌++◌}
use Rattle.ll_grammar.specs.Derivations.{Tree, nothing, leaf, both, left, right, last, more, inner, part, tokens, Derives, of_empty, of_token, of_then, of_left, of_right, of_last, of_more, of_deep}
use Rattle.ll_grammar.specs.Grammar.{many, optional, ◌⨾◌}
use Rattle.m2_base.specs.ExpressionsOf as expressions
use Rattle.m2_base.specs.Grammar as rules
use Rattle.m2_base.specs.Grammar.{grammar}
use Rattle.m2_base.specs.Lists.{Each}
use Rattle.m2_base.specs.StatementsOf as of
use Rattle.m2_base.specs.StatementsOf.{place}
use Rattle.m2_base.specs.Statics.Leaves.{Leaf, token_leaf, CaseArmsHave, ExprsHave, IfArmsHave, StatementsHave, CaseElseHas, ExprOptionHas, IfArmHas, StatementHas}
use Rattle.m2_base.specs.Trees.{CaseArm, case_arms, exprs, if_arms, statements}
use Rattle.m2_base.specs.declared.kind.TokenKind.TheVariants.{Bar, Elsif, Semicolon}
use Rattle.m2_base.specs.declared.token.Token.{Token}
use Rattle.m2_base.proofs.EachLaws.{each_append}
use Rattle.m2_base.proofs.LeafExpressions.{LeavesHave, TokenHas, actuals_leaves, designator_leaves, expr_leaves, first_leaf, labels_leaves, name_leaves}

module _ (P : Leaf → Type 0) where
  -- the tokens that a derivation spells
  spelled_leaves : (d : Tree Token) → LeavesHave P d → Each (TokenHas P) (tokens d)
  spelled_leaves nothing r = tt
  spelled_leaves (leaf t) r = (r, tt)
  spelled_leaves (both d e) r = each_append (TokenHas P) (tokens d) (tokens e) (spelled_leaves d r.0) (spelled_leaves e r.1)
  spelled_leaves (left d) r = spelled_leaves d r
  spelled_leaves (right d) r = spelled_leaves d r
  spelled_leaves last r = tt
  spelled_leaves (more d ds) r = each_append (TokenHas P) (tokens d) (tokens ds) (spelled_leaves d r.0) (spelled_leaves ds r.1)
  spelled_leaves (inner d) r = spelled_leaves d r
  spelled_leaves (part d) r = spelled_leaves d r

  front_leaf : (ts w : List Token) → Each (TokenHas P) ts → P (token_leaf (place w)) → P (token_leaf (place (ts ++ w)))
  front_leaf [] w p h = h
  front_leaf (t ∷ ts) w p h = p.0.place

  -- the token that comes next, of a derivation and the tokens behind it
  next_leaf : (d : Tree Token) (w : List Token) → LeavesHave P d → P (token_leaf (place w)) → P (token_leaf (place (tokens d ++ w)))
  next_leaf d w r h = front_leaf (tokens d) w (spelled_leaves d r) h

  optional_actuals_leaves : {d : Tree Token} → Derives grammar (optional rules.actuals) d → LeavesHave P d → ExprsHave P (exprs (of.optional_actuals_of d))
  optional_actuals_leaves (of_left p) r = actuals_leaves P p r
  optional_actuals_leaves (of_right of_empty) r = tt

  designated_leaves : {d : Tree Token} → Derives grammar rules.designated_statement d → LeavesHave P d → StatementHas P (of.designated_of d)
  designated_leaves (of_then p (of_left (of_then becomes q))) r = (first_leaf P p r.0, (designator_leaves P p r.0, expr_leaves P q r.1.1))
  designated_leaves (of_then p (of_right q)) r = (first_leaf P p r.0, (designator_leaves P p r.0, optional_actuals_leaves q r.1))

  optional_expr_leaves : {d : Tree Token} → Derives grammar (optional rules.expr) d → LeavesHave P d → ExprOptionHas P (expressions.optional_expr_of d)
  optional_expr_leaves (of_left p) r = expr_leaves P p r
  optional_expr_leaves (of_right of_empty) r = tt

  step_leaves : {d : Tree Token} → Derives grammar rules.step d → LeavesHave P d → ExprOptionHas P (of.step_of d)
  step_leaves (of_left (of_then by p)) r = expr_leaves P p r.1
  step_leaves (of_right of_empty) r = tt

  arms_join : (xs ys : List CaseArm) → CaseArmsHave P (case_arms xs) → CaseArmsHave P (case_arms ys) → CaseArmsHave P (case_arms (xs ++ ys))
  arms_join [] ys p q = q
  arms_join (x ∷ xs) ys p q = (p.0, arms_join xs ys p.1 q)

  mutual
    pub statements_leaves : {d : Tree Token} (w : List Token) → Derives grammar rules.statements d → LeavesHave P d → P (token_leaf (place w)) → StatementsHave P (statements (of.statements_of d w))
    statements_leaves w (of_then {d = d} {e = e} p q) r h = (optional_statement_leaves (tokens e ++ w) p r.0 (next_leaf e w r.1 h), more_statements_leaves w q r.1 h)

    more_statements_leaves : {d : Tree Token} (w : List Token) → Derives grammar (many (rules.a Semicolon ⨾ rules.statement)) d → LeavesHave P d → P (token_leaf (place w)) → StatementsHave P (statements (of.more_statements_of d w))
    more_statements_leaves w of_last r h = tt
    more_statements_leaves w (of_more {ds = ds} (of_then semicolon p) q) r h = (optional_statement_leaves (tokens ds ++ w) p r.0.1 (next_leaf ds w r.1 h), more_statements_leaves w q r.1 h)

    optional_statement_leaves : {d : Tree Token} (w : List Token) → Derives grammar rules.statement d → LeavesHave P d → P (token_leaf (place w)) → StatementHas P (of.optional_statement_of d w)
    optional_statement_leaves w (of_left p) r h = statement_leaves w p r h
    optional_statement_leaves w (of_right of_empty) r h = (h, tt)

    statement_leaves : {d : Tree Token} (w : List Token) → Derives grammar rules.one_statement d → LeavesHave P d → P (token_leaf (place w)) → StatementHas P (of.statement_of d w)
    statement_leaves w (of_deep p) r h = statement_rule_leaves w p r h

    statement_rule_leaves : {d : Tree Token} (w : List Token) → Derives grammar rules.statement_rule d → LeavesHave P d → P (token_leaf (place w)) → StatementHas P (of.statement_rule_of d w)
    statement_rule_leaves w (of_left p) r h = designated_leaves p r
    statement_rule_leaves w (of_right (of_left p)) r h = if_leaves w p r h
    statement_rule_leaves w (of_right (of_right (of_left p))) r h = case_leaves w p r h
    statement_rule_leaves w (of_right (of_right (of_right (of_left p)))) r h = while_leaves w p r h
    statement_rule_leaves w (of_right (of_right (of_right (of_right (of_left p))))) r h = repeat_leaves w p r h
    statement_rule_leaves w (of_right (of_right (of_right (of_right (of_right (of_left p)))))) r h = loop_leaves w p r h
    statement_rule_leaves w (of_right (of_right (of_right (of_right (of_right (of_right (of_left (of_token m)))))))) r h = (r.place, tt)
    statement_rule_leaves w (of_right (of_right (of_right (of_right (of_right (of_right (of_right (of_left (of_then (of_token m) p))))))))) r h = (r.0.place, optional_expr_leaves p r.1)
    statement_rule_leaves w (of_right (of_right (of_right (of_right (of_right (of_right (of_right (of_right (of_left p))))))))) r h = for_leaves w p r h
    statement_rule_leaves w (of_right (of_right (of_right (of_right (of_right (of_right (of_right (of_right (of_right p))))))))) r h = with_leaves w p r h

    if_leaves : {d : Tree Token} (w : List Token) → Derives grammar rules.if_rule d → LeavesHave P d → P (token_leaf (place w)) → StatementHas P (of.if_of d w)
    if_leaves w (of_then (of_token m) (of_then p (of_then {d = arms} q (of_then {d = other} {e = end} o e)))) r h =
        let behind = next_leaf end w r.1.1.1.1 h in (
          r.0.place,
          (
            (
              if_arm_leaves (tokens (both arms (both other end)) ++ w) p r.1.0 (next_leaf (both arms (both other end)) w r.1.1 h),
              elsifs_leaves (tokens (both other end) ++ w) q r.1.1.0 (next_leaf (both other end) w r.1.1.1 h),
            ),
            otherwise_leaves (tokens end ++ w) o r.1.1.1.0 behind,
          ),
        )

    if_arm_leaves : {d : Tree Token} (w : List Token) → Derives grammar rules.if_arm d → LeavesHave P d → P (token_leaf (place w)) → IfArmHas P (of.if_arm_of d w)
    if_arm_leaves w (of_then p (of_then then_word q)) r h = (expr_leaves P p r.0, statements_leaves w q r.1.1 h)

    elsifs_leaves : {d : Tree Token} (w : List Token) → Derives grammar (many (rules.a Elsif ⨾ rules.if_arm)) d → LeavesHave P d → P (token_leaf (place w)) → IfArmsHave P (if_arms (of.elsifs_of d w))
    elsifs_leaves w of_last r h = tt
    elsifs_leaves w (of_more {ds = ds} (of_then elsif p) q) r h = (if_arm_leaves (tokens ds ++ w) p r.0.1 (next_leaf ds w r.1 h), elsifs_leaves w q r.1 h)

    otherwise_leaves : {d : Tree Token} (w : List Token) → Derives grammar rules.otherwise d → LeavesHave P d → P (token_leaf (place w)) → StatementsHave P (statements (of.other_statements (of.otherwise_of d w)))
    otherwise_leaves w (of_left (of_then else_word p)) r h = statements_leaves w p r.1 h
    otherwise_leaves w (of_right of_empty) r h = tt

    case_leaves : {d : Tree Token} (w : List Token) → Derives grammar rules.case_rule d → LeavesHave P d → P (token_leaf (place w)) → StatementHas P (of.case_of d w)
    case_leaves w (of_then (of_token m) (of_then p (of_then of_word (of_then q (of_then {d = other} {e = end} o e))))) r h = (
      r.0.place,
      (
        expr_leaves P p r.1.0,
        case_arms_leaves (tokens (both other end) ++ w) q r.1.1.1.0 (next_leaf (both other end) w r.1.1.1.1 h),
        case_else_leaves (tokens end ++ w) o r.1.1.1.1.0 (next_leaf end w r.1.1.1.1.1 h),
      ),
    )

    case_else_leaves : {d : Tree Token} (w : List Token) → Derives grammar rules.otherwise d → LeavesHave P d → P (token_leaf (place w)) → CaseElseHas P (of.case_else_with (of.otherwise_of d w))
    case_else_leaves w (of_left (of_then else_word p)) r h = statements_leaves w p r.1 h
    case_else_leaves w (of_right of_empty) r h = tt

    case_arms_leaves : {d : Tree Token} (w : List Token) → Derives grammar (rules.list rules.arm Bar) d → LeavesHave P d → P (token_leaf (place w)) → CaseArmsHave P (case_arms (of.arms_of d w))
    case_arms_leaves w (of_then {d = d} {e = e} p q) r h =
        arms_join (of.arm_of d (tokens e ++ w)) (of.more_arms_of e w) (case_arm_leaves (tokens e ++ w) p r.0 (next_leaf e w r.1 h)) (more_case_arms_leaves w q r.1 h)

    more_case_arms_leaves : {d : Tree Token} (w : List Token) → Derives grammar (many (rules.a Bar ⨾ rules.arm)) d → LeavesHave P d → P (token_leaf (place w)) → CaseArmsHave P (case_arms (of.more_arms_of d w))
    more_case_arms_leaves w of_last r h = tt
    more_case_arms_leaves w (of_more {ds = ds} (of_then {e = e} bar p) q) r h =
        arms_join (of.arm_of e (tokens ds ++ w)) (of.more_arms_of ds w) (case_arm_leaves (tokens ds ++ w) p r.0.1 (next_leaf ds w r.1 h)) (more_case_arms_leaves w q r.1 h)

    case_arm_leaves : {d : Tree Token} (w : List Token) → Derives grammar rules.arm d → LeavesHave P d → P (token_leaf (place w)) → CaseArmsHave P (case_arms (of.arm_of d w))
    case_arm_leaves w (of_left (of_then p (of_then colon q))) r h = ((labels_leaves P p r.0, statements_leaves w q r.1.1 h), tt)
    case_arm_leaves w (of_right of_empty) r h = tt

    while_leaves : {d : Tree Token} (w : List Token) → Derives grammar rules.while_rule d → LeavesHave P d → P (token_leaf (place w)) → StatementHas P (of.while_of d w)
    while_leaves w (of_then (of_token m) (of_then p (of_then do_word (of_then {e = end} q e)))) r h =
        (r.0.place, (expr_leaves P p r.1.0, statements_leaves (tokens end ++ w) q r.1.1.1.0 (next_leaf end w r.1.1.1.1 h)))

    repeat_leaves : {d : Tree Token} (w : List Token) → Derives grammar rules.repeat_rule d → LeavesHave P d → P (token_leaf (place w)) → StatementHas P (of.repeat_of d w)
    repeat_leaves w (of_then (of_token m) (of_then q (of_then {d = until} {e = e} until_word p))) r h =
        (r.0.place, (statements_leaves (tokens (both until e) ++ w) q r.1.0 (next_leaf (both until e) w r.1.1 h), expr_leaves P p r.1.1.1))

    loop_leaves : {d : Tree Token} (w : List Token) → Derives grammar rules.loop_rule d → LeavesHave P d → P (token_leaf (place w)) → StatementHas P (of.loop_of d w)
    loop_leaves w (of_then (of_token m) (of_then {e = end} q e)) r h = (r.0.place, statements_leaves (tokens end ++ w) q r.1.0 (next_leaf end w r.1.1 h))

    for_leaves : {d : Tree Token} (w : List Token) → Derives grammar rules.for_rule d → LeavesHave P d → P (token_leaf (place w)) → StatementHas P (of.for_of d w)
    for_leaves w (of_then (of_token m) (of_then i (of_then becomes (of_then low (of_then to (of_then high (of_then by (of_then do_word (of_then {e = end} q e))))))))) r h = (
      r.0.place,
      (
        name_leaves P i r.1.0,
        expr_leaves P low r.1.1.1.0,
        expr_leaves P high r.1.1.1.1.1.0,
        step_leaves by r.1.1.1.1.1.1.0,
        statements_leaves (tokens end ++ w) q r.1.1.1.1.1.1.1.1.0 (next_leaf end w r.1.1.1.1.1.1.1.1.1 h),
      ),
    )

    with_leaves : {d : Tree Token} (w : List Token) → Derives grammar rules.with_rule d → LeavesHave P d → P (token_leaf (place w)) → StatementHas P (of.with_of d w)
    with_leaves w (of_then (of_token m) (of_then p (of_then do_word (of_then {e = end} q e)))) r h =
        (r.0.place, (designator_leaves P p r.1.0, statements_leaves (tokens end ++ w) q r.1.1.1.0 (next_leaf end w r.1.1.1.1 h)))
