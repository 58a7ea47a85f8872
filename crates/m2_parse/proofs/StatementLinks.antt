-- The readers of statements read what the grammar says.
use Rattle.std.proofs.Common.{ℕ, zero, suc, List, [], ◌∷◌, Some, refl, sym, ap, ◌∙◌, map}
use Rattle.ll_grammar.specs.Grammar.{many, ◌⨾◌, optional}
use Rattle.ll_grammar.specs.Derivations.{both}
use Rattle.ll_grammar.specs.Readers.{itself, all}
use Rattle.ll_grammar.proofs.Link.{Reads, Is, IsAt, weaker, seq, seq_at, final, either, no_part, deeper, at_limit, a_kind, next_starts, next_in_starts}
use Rattle.ll_grammar.proofs.Repetitions.{loop, list_read}
use Rattle.m2_base.specs.declared.kind.TokenKind.TheVariants.{Identifier, If, Case, While, Repeat, Loop, Exit, Return, For, Becomes, LeftParenthesis, Else, Elsif, Bar, By}
use Rattle.m2_base.specs.declared.token.Token.{Token}
use Rattle.m2_base.specs.KindNumbers.{kind_number}
use Rattle.m2_base.specs.Grammar as rules
use Rattle.m2_base.specs.Grammar.{grammar, a, list, ◌∣◌}
use Rattle.m2_base.specs.Trees as trees
use Rattle.m2_base.specs.Trees.{Statement}
use Rattle.m2_base.specs.ExpressionsOf.{expr_of, designator_of, optional_expr_of}
use Rattle.m2_base.specs.StatementsOf as of
use Rattle.m2_base.proofs.GrammarChecks.{is_ll1}
use Rattle.m2_parse.specs.Reading.{Read, tell, next_is}
use Rattle.m2_parse.specs.ReadExpressions.{begins_expr, factor_starts, factor_at}
use Rattle.m2_parse.specs.ReadStatements as at
use Rattle.m2_parse.specs.ReadStatements.{begins_statement, statement_at}
use Rattle.m2_parse.proofs.NameLinks.{ident_read}
use Rattle.m2_parse.proofs.ExpressionLinks.{expr_read as any_expr_read, labels_read as any_labels_read, designator_read as any_designator_read, actuals_read as any_actuals_read, factor_read}

module _ (n : ℕ) where
  expr_read : (ts : List Token) → Reads grammar tell rules.expr (Is expr_of) n ts (at.expr_at n ts)
  expr_read ts = any_expr_read n (factor_at n) (factor_read n) ts

  designator_read : (ts : List Token) → Reads grammar tell rules.designator (Is designator_of) n ts (at.designator_at n ts)
  designator_read ts = any_designator_read n (factor_at n) (factor_read n) ts

  exit_read : (ts : List Token) → Reads grammar tell (a Exit) (Is of.exit_of) n ts (at.exit_at ts)
  unfolding at.exit_at
  exit_read ts = final (λ t. trees.statement t.0.at trees.exit_form) (a_kind 22 ts) (λ t d e. ap of.exit_of e)

  optional_expr_read : (ts : List Token) → Reads grammar tell (optional rules.expr) (Is optional_expr_of) n ts (at.optional_expr_at n ts)
  unfolding at.optional_expr_at
  optional_expr_read ts =
      either (begins_expr ts) (next_in_starts grammar (50 ∷ 51 ∷ map kind_number factor_starts) ts)
      (final (λ e. Some e.0) (expr_read ts) (λ e de h. ap (λ x. Some x) h))
      (no_part refl)

  return_read : (ts : List Token) → Reads grammar tell (a Return ⨾ optional rules.expr) (Is of.return_of) n ts (at.return_at n ts)
  unfolding at.return_at
  return_read ts =
      seq (a_kind 41 ts) (λ t dt et.
      final (λ e. trees.statement t.0.at (trees.return_form e.0)) (optional_expr_read t.1) (λ e de h.
      ap (λ z. of.return_of (both z de)) et ∙ ap (λ x. trees.statement t.0.at (trees.return_form x)) h))

  optional_actuals_read : (ts : List Token) → Reads grammar tell (optional rules.actuals) (Is of.optional_actuals_of) n ts (at.optional_actuals_at n ts)
  unfolding at.optional_actuals_at
  optional_actuals_read ts =
      either (next_is LeftParenthesis ts) (next_starts grammar 58 ts)
      (weaker (λ x d w h. h) (any_actuals_read n (factor_at n) (factor_read n) ts))
      (no_part refl)

  designated_read : (ts : List Token) → Reads grammar tell rules.designated_statement (Is of.designated_of) n ts (at.designated_at n ts)
  unfolding at.designated_at at.assigned_at
  designated_read ts =
      seq (designator_read ts) (λ d dd h.
      either (next_is Becomes d.1) (next_starts grammar 54 d.1)
      (seq (a_kind 54 d.1) (λ b db eb.
      final (λ e. of.assignment d.0 e.0) (expr_read b.1) (λ e de k. (λ j. of.assignment (h j) (k j)))))
      (final (λ es. of.invocation d.0 es.0) (optional_actuals_read d.1) (λ es des k. (λ j. of.invocation (h j) (k j)))))

  step_read : (ts : List Token) → Reads grammar tell rules.step (Is of.step_of) n ts (at.step_at n ts)
  unfolding at.step_at
  step_read ts =
      either (next_is By ts) (next_starts grammar 13 ts)
      (seq (a_kind 13 ts) (λ b db eb. final (λ e. Some e.0) (expr_read b.1) (λ e de h. ap (λ x. Some x) h)))
      (no_part refl)

  module _ (reader : Read Statement) (reads : (ts : List Token) → Reads grammar tell rules.one_statement (IsAt of.statement_of) n ts (reader ts)) where
    optional_statement_read : (ts : List Token) → Reads grammar tell rules.statement (IsAt of.optional_statement_of) n ts (at.optional_statement_with n reader ts)
    unfolding at.optional_statement_with
    optional_statement_read ts =
        either (begins_statement ts) (next_in_starts grammar (1 ∷ 26 ∷ 14 ∷ 48 ∷ 40 ∷ 30 ∷ 22 ∷ 41 ∷ 24 ∷ 49 ∷ []) ts)
        (weaker (λ x d w h. h) (reads ts))
        (no_part refl)

    pub statements_read : (ts : List Token) → Reads grammar tell rules.statements (IsAt of.statements_of) n ts (at.statements_with n reader ts)
    statements_read ts =
        list_read is_ll1 57 of.statements_of of.more_statements_of itself (λ w. refl) (λ s d ds w. refl) (λ d ds w. refl) optional_statement_read ts

    otherwise_read : (ts : List Token) → Reads grammar tell rules.otherwise (IsAt of.otherwise_of) n ts (at.otherwise_with n reader ts)
    unfolding at.otherwise_with
    otherwise_read ts =
        either (next_is Else ts) (next_starts grammar 19 ts)
        (seq (a_kind 19 ts) (λ p dp ep. final (λ ss. Some ss.0) (statements_read p.1) (λ ss dss h. ap (λ x. Some x) h)))
        (no_part refl)

    if_arm_read : (ts : List Token) → Reads grammar tell rules.if_arm (IsAt of.if_arm_of) n ts (at.if_arm_with n reader ts)
    unfolding at.if_arm_with
    if_arm_read ts =
        seq (expr_read ts) (λ e de h.
        seq (a_kind 43 e.1) (λ p dp ep.
        final (λ ss. trees.if_arm e.0 (trees.statements ss.0)) (statements_read p.1) (λ ss dss k. (λ j. trees.if_arm (h j) (trees.statements (k j))))))

    elsif_read : (ts : List Token) → Reads grammar tell (a Elsif ⨾ rules.if_arm) (IsAt of.elsif_of) n ts (at.elsif_with n reader ts)
    unfolding at.elsif_with
    elsif_read ts =
        seq (a_kind 20 ts) (λ p dp ep. final (λ x. x.0) (if_arm_read p.1) (λ x dx h. h))

    elsifs_read : (ts : List Token) → Reads grammar tell (many (a Elsif ⨾ rules.if_arm)) (IsAt of.elsifs_of) n ts (at.elsifs_with n reader ts)
    elsifs_read ts = loop is_ll1 of.elsifs_of itself refl (next_starts grammar 20) (λ w. refl) (λ d ds w h. refl) elsif_read ts

    if_read : (ts : List Token) → Reads grammar tell rules.if_rule (IsAt of.if_of) n ts (at.if_with n reader ts)
    unfolding at.if_with
    if_read ts =
        seq (a_kind 26 ts) (λ t dt et.
        seq_at (if_arm_read t.1) (λ x dx hx.
        seq_at (elsifs_read x.1) (λ m dm hm.
        seq_at (otherwise_read m.1) (λ o d_other ho.
        final (λ e. trees.statement t.0.at (trees.if_form (trees.if_arms (x.0 ∷ m.0)) (trees.statements (of.other_statements o.0)))) (a_kind 21 o.1) (λ e de ee i3 i2 i1.
        ap (λ z. of.if_of (both z (both dx (both dm (both d_other de)))) e.1) et
        ∙ (λ j. trees.statement t.0.at (trees.if_form (trees.if_arms ((ap (of.if_arm_of dx) (sym i1) ∙ hx) j ∷ (ap (of.elsifs_of dm) (sym i2) ∙ hm) j)) (trees.statements (of.other_statements ((ap (of.otherwise_of d_other) (sym i3) ∙ ho) j))))))))))

    arm_read : (ts : List Token) → Reads grammar tell rules.arm (IsAt of.arm_of) n ts (at.arm_with n reader ts)
    unfolding at.arm_with
    arm_read ts =
        either (begins_expr ts) (next_in_starts grammar (50 ∷ 51 ∷ map kind_number factor_starts) ts)
        (seq (any_labels_read n (factor_at n) (factor_read n) ts) (λ ls dls h.
        seq (a_kind 69 ls.1) (λ c dc ec.
        final (λ ss. trees.case_arm (trees.labels ls.0) (trees.statements ss.0) ∷ []) (statements_read c.1) (λ ss dss k.
        (λ j. trees.case_arm (trees.labels (h j)) (trees.statements (k j)) ∷ [])))))
        (no_part refl)

    arms_read : (ts : List Token) → Reads grammar tell (list rules.arm Bar) (IsAt of.arms_of) n ts (at.arms_with n reader ts)
    arms_read ts = list_read is_ll1 73 of.arms_of of.more_arms_of all (λ w. refl) (λ s d ds w. refl) (λ d ds w. refl) arm_read ts

    case_read : (ts : List Token) → Reads grammar tell rules.case_rule (IsAt of.case_of) n ts (at.case_with n reader ts)
    unfolding at.case_with
    case_read ts =
        seq (a_kind 14 ts) (λ t dt et.
        seq (expr_read t.1) (λ x dx hx.
        seq (a_kind 34 x.1) (λ o d_of eo.
        seq_at (arms_read o.1) (λ m dm hm.
        seq_at (otherwise_read m.1) (λ r dr hr.
        final (λ e. trees.statement t.0.at (trees.case_form x.0 (trees.case_arms m.0) (of.case_else_with r.0))) (a_kind 21 r.1) (λ e de ee i2 i1.
        ap (λ z. of.case_of (both z (both dx (both d_of (both dm (both dr de))))) e.1) et
        ∙ (λ j. trees.statement t.0.at (trees.case_form (hx j) (trees.case_arms ((ap (of.arms_of dm) (sym i1) ∙ hm) j)) (of.case_else_with ((ap (of.otherwise_of dr) (sym i2) ∙ hr) j))))))))))

    while_read : (ts : List Token) → Reads grammar tell rules.while_rule (IsAt of.while_of) n ts (at.while_with n reader ts)
    unfolding at.while_with
    while_read ts =
        seq (a_kind 48 ts) (λ t dt et.
        seq (expr_read t.1) (λ x dx hx.
        seq (a_kind 18 x.1) (λ d dd ed.
        seq_at (statements_read d.1) (λ s ds hs.
        final (λ e. trees.statement t.0.at (trees.while_form x.0 (trees.statements s.0))) (a_kind 21 s.1) (λ e de ee i1.
        ap (λ z. of.while_of (both z (both dx (both dd (both ds de)))) e.1) et
        ∙ (λ j. trees.statement t.0.at (trees.while_form (hx j) (trees.statements ((ap (of.statements_of ds) (sym i1) ∙ hs) j)))))))))

    repeat_read : (ts : List Token) → Reads grammar tell rules.repeat_rule (IsAt of.repeat_of) n ts (at.repeat_with n reader ts)
    unfolding at.repeat_with
    repeat_read ts =
        seq (a_kind 40 ts) (λ t dt et.
        seq_at (statements_read t.1) (λ s ds hs.
        seq (a_kind 46 s.1) (λ u du eu.
        final (λ x. trees.statement t.0.at (trees.repeat_form (trees.statements s.0) x.0)) (expr_read u.1) (λ x dx hx i1.
        ap (λ z. of.repeat_of (both z (both ds (both du dx))) x.1) et
        ∙ (λ j. trees.statement t.0.at (trees.repeat_form (trees.statements ((ap (of.statements_of ds) (sym i1) ∙ hs) j)) (hx j)))))))

    loop_read : (ts : List Token) → Reads grammar tell rules.loop_rule (IsAt of.loop_of) n ts (at.loop_with n reader ts)
    unfolding at.loop_with
    loop_read ts =
        seq (a_kind 30 ts) (λ t dt et.
        seq_at (statements_read t.1) (λ s ds hs.
        final (λ e. trees.statement t.0.at (trees.loop_form (trees.statements s.0))) (a_kind 21 s.1) (λ e de ee i1.
        ap (λ z. of.loop_of (both z (both ds de)) e.1) et
        ∙ (λ j. trees.statement t.0.at (trees.loop_form (trees.statements ((ap (of.statements_of ds) (sym i1) ∙ hs) j)))))))

    for_read : (ts : List Token) → Reads grammar tell rules.for_rule (IsAt of.for_of) n ts (at.for_with n reader ts)
    unfolding at.for_with
    for_read ts =
        seq (a_kind 24 ts) (λ t dt et.
        seq (ident_read n t.1) (λ i di hi.
        seq (a_kind 54 i.1) (λ b db eb.
        seq (expr_read b.1) (λ x dx hx.
        seq (a_kind 44 x.1) (λ o d_to eo.
        seq (expr_read o.1) (λ y dy hy.
        seq (step_read y.1) (λ p dp hp.
        seq (a_kind 18 p.1) (λ d dd ed.
        seq_at (statements_read d.1) (λ s ds hs.
        final (λ e. trees.statement t.0.at (trees.for_form i.0 x.0 y.0 p.0 (trees.statements s.0))) (a_kind 21 s.1) (λ e de ee i1.
        ap (λ z. of.for_of (both z (both di (both db (both dx (both d_to (both dy (both dp (both dd (both ds de))))))))) e.1) et
        ∙ (λ j. trees.statement t.0.at (trees.for_form (hi j) (hx j) (hy j) (hp j) (trees.statements ((ap (of.statements_of ds) (sym i1) ∙ hs) j))))))))))))))

    with_read : (ts : List Token) → Reads grammar tell rules.with_rule (IsAt of.with_of) n ts (at.with_with n reader ts)
    unfolding at.with_with
    with_read ts =
        seq (a_kind 49 ts) (λ t dt et.
        seq (designator_read t.1) (λ x dx hx.
        seq (a_kind 18 x.1) (λ d dd ed.
        seq_at (statements_read d.1) (λ s ds hs.
        final (λ e. trees.statement t.0.at (trees.with_form x.0 (trees.statements s.0))) (a_kind 21 s.1) (λ e de ee i1.
        ap (λ z. of.with_of (both z (both dx (both dd (both ds de)))) e.1) et
        ∙ (λ j. trees.statement t.0.at (trees.with_form (hx j) (trees.statements ((ap (of.statements_of ds) (sym i1) ∙ hs) j)))))))))

    inner_statement_read : (ts : List Token) → Reads grammar tell rules.statement_rule (IsAt of.statement_rule_of) n ts (at.inner_statement n reader ts)
    unfolding at.inner_statement
    inner_statement_read ts =
        either (next_is Identifier ts) (next_starts grammar 1 ts) (weaker (λ x d w h. h) (designated_read ts))
        (either (next_is If ts) (next_starts grammar 26 ts) (weaker (λ x d w h. h) (if_read ts))
        (either (next_is Case ts) (next_starts grammar 14 ts) (weaker (λ x d w h. h) (case_read ts))
        (either (next_is While ts) (next_starts grammar 48 ts) (weaker (λ x d w h. h) (while_read ts))
        (either (next_is Repeat ts) (next_starts grammar 40 ts) (weaker (λ x d w h. h) (repeat_read ts))
        (either (next_is Loop ts) (next_starts grammar 30 ts) (weaker (λ x d w h. h) (loop_read ts))
        (either (next_is Exit ts) (next_starts grammar 22 ts) (weaker (λ x d w h. h) (exit_read ts))
        (either (next_is Return ts) (next_starts grammar 41 ts) (weaker (λ x d w h. h) (return_read ts))
        (either (next_is For ts) (next_starts grammar 24 ts) (weaker (λ x d w h. h) (for_read ts))
        (weaker (λ x d w h. h) (with_read ts))))))))))

pub statement_read : (n : ℕ) (ts : List Token) → Reads grammar tell rules.one_statement (IsAt of.statement_of) n ts (statement_at n ts)
unfolding statement_at
statement_read zero ts = at_limit (begins_statement ts) (next_in_starts grammar (1 ∷ 26 ∷ 14 ∷ 48 ∷ 40 ∷ 30 ∷ 22 ∷ 41 ∷ 24 ∷ 49 ∷ []) ts)
statement_read (suc n) ts = deeper (inner_statement_read n (statement_at n) (statement_read n) ts)
