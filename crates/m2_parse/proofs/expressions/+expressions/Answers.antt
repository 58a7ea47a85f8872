use Rattle.std.proofs.Common.{ap, ◌∙◌, map, arith}
use Rattle.std.proofs.lemmas.Grind.{common_steps}
use Rattle.std.proofs.lemmas.List.{map_push}
use Rattle.ll_grammar.proofs.Loops.{listed_starts, repeat_goes_on, repeat_ends, repeat_stops, repeat_is_done, separated_is_done}
use Rattle.m2_base.specs.Views.{expr_view, label_view, selector_view, next_view}
use Rattle.m2_base.proofs.Seen.{call_seen, deref_seen, designator_seen, expr_seen, field_seen, index_seen, label_made, name_seen, next_seen, one_seen, plain_set_seen, typed_set_seen}
use Rattle.m2_parse.specs.ReadExpressions.{actuals_with, arguments_with, bracketed_with, designated_with, designator_with, elements_with, expr_with, first_term_with, label_with_upper, negated_with, next_factor_with, next_term_with, plain_set_with, relation_with, selection_with, selector_with, set_with, sum_with, term_with, upper_with}
use Rattle.m2_parse.proofs.ListLemmas.{list_goes_on, list_ends, list_stops}
use Rattle.m2_parse.proofs.Steps.{handed_on, fails, fails_behind}
use Rattle.m2_parse.proofs.expressions.+expressions.Goals as goal

pub exprs-returns-in_default : goal.exprs-returns-in_default
exprs-returns-in_default t c = list_stops c.loop.invariant c.loop-test.true c.in_default.ensures.0 c.in_default.ensures.1

pub exprs-returns-in_err-first : goal.exprs-returns-in_err-first
exprs-returns-in_err-first t c = handed_on _ _ _ c.from_residual.result c.from_residual.ensures.1 (fails _ _ _ c.in_err-first.ensures)

pub exprs-returns-in_err-item : goal.exprs-returns-in_err-item
exprs-returns-in_err-item t c =
    handed_on _ _ _ c.from_residual-in_err-item.result c.from_residual-in_err-item.ensures.1 (list_ends _ c.loop.invariant c.loop-test.true c.in-Some.ensures.1 c.in_err-item.ensures)

pub exprs-loop-init : goal.exprs-loop-init
exprs-loop-init t c = listed_starts _ c.in_ok-first.ensures (ap (map expr_view) c.in_ok-items.ensures)

pub exprs-loop-preserved : goal.exprs-loop-preserved
exprs-loop-preserved t c =
    list_goes_on c.loop.invariant c.loop-test.true c.in-Some.ensures.1 c.in_ok-item.ensures
    (ap (map expr_view) c.in_ok-push.ensures.items ∙ map_push expr_view c.loop.items.items c.in_ok-item.item)

pub exprs-returns : goal.exprs-returns
exprs-returns t c = separated_is_done c.loop.invariant c.loop-test.false

pub labels-returns-in_default : goal.labels-returns-in_default
labels-returns-in_default t c = list_stops c.loop.invariant c.loop-test.true c.in_default.ensures.0 c.in_default.ensures.1

pub labels-returns-in_err-first : goal.labels-returns-in_err-first
labels-returns-in_err-first t c = handed_on _ _ _ c.from_residual.result c.from_residual.ensures.1 (fails _ _ _ c.in_err-first.ensures)

pub labels-returns-in_err-item : goal.labels-returns-in_err-item
labels-returns-in_err-item t c =
    handed_on _ _ _ c.from_residual-in_err-item.result c.from_residual-in_err-item.ensures.1 (list_ends _ c.loop.invariant c.loop-test.true c.in-Some.ensures.1 c.in_err-item.ensures)

pub labels-loop-init : goal.labels-loop-init
labels-loop-init t c = listed_starts _ c.in_ok-first.ensures (ap (map label_view) c.in_ok-items.ensures)

pub labels-loop-preserved : goal.labels-loop-preserved
labels-loop-preserved t c =
    list_goes_on c.loop.invariant c.loop-test.true c.in-Some.ensures.1 c.in_ok-item.ensures
    (ap (map label_view) c.in_ok-push.ensures.items ∙ map_push label_view c.loop.items.items c.in_ok-item.item)

pub labels-returns : goal.labels-returns
labels-returns t c = separated_is_done c.loop.invariant c.loop-test.false

pub selectors-returns-then-not-begins_selector : goal.selectors-returns-then-not-begins_selector
selectors-returns-then-not-begins_selector t c = repeat_stops c.loop.invariant c.loop-test.true c.if-not-begins_selector.true c.begins_selector.ensures

pub selectors-returns-in_err-item : goal.selectors-returns-in_err-item
selectors-returns-in_err-item t c =
    handed_on _ _ _ c.from_residual.result c.from_residual.ensures.1 (repeat_ends _ c.loop.invariant c.loop-test.true c.if-not-begins_selector.false c.begins_selector.ensures c.in_err-item.ensures)

pub selectors-loop-preserved : goal.selectors-loop-preserved
selectors-loop-preserved t c =
    repeat_goes_on c.loop.invariant c.loop-test.true c.if-not-begins_selector.false c.begins_selector.ensures c.in_ok-item.ensures
    (ap (map selector_view) c.in_ok-push.ensures.items ∙ map_push selector_view c.loop.items.items c.in_ok-item.item)

pub selectors-returns : goal.selectors-returns
selectors-returns t c = repeat_is_done c.loop.invariant c.loop-test.false

pub factors-returns-then-not-is_multiplying : goal.factors-returns-then-not-is_multiplying
factors-returns-then-not-is_multiplying t c = repeat_stops c.loop.invariant c.loop-test.true c.if-not-is_multiplying.true c.is_multiplying.ensures

pub factors-returns-in_err-item : goal.factors-returns-in_err-item
factors-returns-in_err-item t c =
    handed_on _ _ _ c.from_residual.result c.from_residual.ensures.1 (repeat_ends _ c.loop.invariant c.loop-test.true c.if-not-is_multiplying.false c.is_multiplying.ensures c.in_err-item.ensures)

pub factors-loop-preserved : goal.factors-loop-preserved
factors-loop-preserved t c =
    repeat_goes_on c.loop.invariant c.loop-test.true c.if-not-is_multiplying.false c.is_multiplying.ensures c.in_ok-item.ensures
    (ap (map next_view) c.in_ok-push.ensures.items ∙ map_push next_view c.loop.items.items c.in_ok-item.item)

pub factors-returns : goal.factors-returns
factors-returns t c = repeat_is_done c.loop.invariant c.loop-test.false

pub terms-returns-then-not-is_adding : goal.terms-returns-then-not-is_adding
terms-returns-then-not-is_adding t c = repeat_stops c.loop.invariant c.loop-test.true c.if-not-is_adding.true c.is_adding.ensures

pub terms-returns-in_err-item : goal.terms-returns-in_err-item
terms-returns-in_err-item t c =
    handed_on _ _ _ c.from_residual.result c.from_residual.ensures.1 (repeat_ends _ c.loop.invariant c.loop-test.true c.if-not-is_adding.false c.is_adding.ensures c.in_err-item.ensures)

pub terms-loop-preserved : goal.terms-loop-preserved
terms-loop-preserved t c =
    repeat_goes_on c.loop.invariant c.loop-test.true c.if-not-is_adding.false c.is_adding.ensures c.in_ok-item.ensures
    (ap (map next_view) c.in_ok-push.ensures.items ∙ map_push next_view c.loop.items.items c.in_ok-item.item)

pub terms-returns : goal.terms-returns
terms-returns t c = repeat_is_done c.loop.invariant c.loop-test.false

pub plain_set-returns-in_err-at : goal.plain_set-returns-in_err-at
unfolding plain_set_with
plain_set-returns-in_err-at t c =
    handed_on _ _ _ c.from_residual.result c.from_residual.ensures.1 (fails _ _ _ c.in_err-at.ensures)

pub plain_set-returns : goal.plain_set-returns
unfolding plain_set_with
plain_set-returns t c = grind (arith, common_steps, expr_seen, plain_set_seen)

pub bracketed-returns-in_err-open : goal.bracketed-returns-in_err-open
unfolding bracketed_with
bracketed-returns-in_err-open t c =
    handed_on _ _ _ c.from_residual.result c.from_residual.ensures.1 (fails _ _ _ c.in_err-open.ensures.gives)

pub bracketed-returns-in_err-inner : goal.bracketed-returns-in_err-inner
unfolding bracketed_with
bracketed-returns-in_err-inner t c =
    handed_on _ _ _ c.from_residual-in_err-inner.result c.from_residual-in_err-inner.ensures.1
    (fails_behind _ _ _ c.in_ok-open.ensures.gives (fails _ _ _ c.in_err-inner.ensures))

pub bracketed-returns-in_err-expect : goal.bracketed-returns-in_err-expect
unfolding bracketed_with
bracketed-returns-in_err-expect t c =
    handed_on _ _ _ c.from_residual-in_err-expect.result c.from_residual-in_err-expect.ensures.1
    (fails_behind _ _ _ c.in_ok-open.ensures.gives (fails_behind _ _ _ c.in_ok-inner.ensures
    (fails _ _ _ c.in_err-expect.ensures.gives)))

pub bracketed-returns : goal.bracketed-returns
unfolding bracketed_with
bracketed-returns t c = grind (arith, common_steps, expr_seen)

pub negated-returns-in_err-not : goal.negated-returns-in_err-not
unfolding negated_with
negated-returns-in_err-not t c =
    handed_on _ _ _ c.from_residual.result c.from_residual.ensures.1 (fails _ _ _ c.in_err-not.ensures.gives)

pub negated-returns-in_err-of : goal.negated-returns-in_err-of
unfolding negated_with
negated-returns-in_err-of t c =
    handed_on _ _ _ c.from_residual-in_err-of.result c.from_residual-in_err-of.ensures.1
    (fails_behind _ _ _ c.in_ok-not.ensures.gives (fails _ _ _ c.in_err-of.ensures))

pub negated-returns-in_err-new : goal.negated-returns-in_err-new
unfolding negated_with
negated-returns-in_err-new t c = grind (arith, common_steps)

pub negated-returns : goal.negated-returns
unfolding negated_with
negated-returns t c = grind (arith, common_steps, expr_seen, one_seen)

pub designated-returns-in_err-of : goal.designated-returns-in_err-of
unfolding designated_with
designated-returns-in_err-of t c =
    handed_on _ _ _ c.from_residual.result c.from_residual.ensures.1 (fails _ _ _ c.in_err-of.ensures)

pub designated-returns-in_err-_at : goal.designated-returns-in_err-_at
unfolding designated_with selection_with
designated-returns-in_err-_at t c = grind (arith, common_steps)

pub designated-returns-then-next_is : goal.designated-returns-then-next_is
unfolding designated_with selection_with
designated-returns-then-next_is t c = grind (arith, common_steps, expr_seen, designator_seen, typed_set_seen, call_seen, name_seen)

pub designated-returns-in_err-args : goal.designated-returns-in_err-args
unfolding designated_with selection_with
designated-returns-in_err-args t c = grind (arith, common_steps)

pub designated-returns-then-next_is-2 : goal.designated-returns-then-next_is-2
unfolding designated_with selection_with
designated-returns-then-next_is-2 t c = grind (arith, common_steps, expr_seen, designator_seen, typed_set_seen, call_seen, name_seen)

pub designated-returns : goal.designated-returns
unfolding designated_with selection_with
designated-returns t c = grind (arith, common_steps, expr_seen, designator_seen, typed_set_seen, call_seen, name_seen)

pub set-returns-in_err-open : goal.set-returns-in_err-open
unfolding set_with
set-returns-in_err-open t c =
    handed_on _ _ _ c.from_residual.result c.from_residual.ensures.1 (fails _ _ _ c.in_err-open.ensures.gives)

pub set-returns-in_err-expect : goal.set-returns-in_err-expect
unfolding set_with elements_with
set-returns-in_err-expect t c = grind (arith, common_steps)

pub set-returns-then-not-begins_expr : goal.set-returns-then-not-begins_expr
unfolding set_with elements_with
set-returns-then-not-begins_expr t c = grind (arith, common_steps)

pub set-returns-in_err-items : goal.set-returns-in_err-items
unfolding set_with elements_with
set-returns-in_err-items t c = grind (arith, common_steps)

pub set-returns-in_err-expect-2 : goal.set-returns-in_err-expect-2
unfolding set_with elements_with
set-returns-in_err-expect-2 t c = grind (arith, common_steps)

pub set-returns : goal.set-returns
unfolding set_with elements_with
set-returns t c = grind (arith, common_steps)

pub label-returns-in_err-low : goal.label-returns-in_err-low
unfolding label_with_upper
label-returns-in_err-low t c =
    handed_on _ _ _ c.from_residual.result c.from_residual.ensures.1 (fails _ _ _ c.in_err-low.ensures)

pub label-returns-in_default : goal.label-returns-in_default
unfolding label_with_upper upper_with
label-returns-in_default t c = grind (arith, common_steps, label_made)

pub label-returns-in_err-high : goal.label-returns-in_err-high
unfolding label_with_upper upper_with
label-returns-in_err-high t c = grind (arith, common_steps)

pub label-returns : goal.label-returns
unfolding label_with_upper upper_with
label-returns t c = grind (arith, common_steps, label_made)

pub actuals-returns-in_err-expect : goal.actuals-returns-in_err-expect
unfolding actuals_with
actuals-returns-in_err-expect t c =
    handed_on _ _ _ c.from_residual.result c.from_residual.ensures.1 (fails _ _ _ c.in_err-expect.ensures.gives)

pub actuals-returns-in_err-expect-2 : goal.actuals-returns-in_err-expect-2
unfolding actuals_with arguments_with
actuals-returns-in_err-expect-2 t c = grind (arith, common_steps)

pub actuals-returns-then-not-begins_expr : goal.actuals-returns-then-not-begins_expr
unfolding actuals_with arguments_with
actuals-returns-then-not-begins_expr t c = grind (arith, common_steps)

pub actuals-returns-in_err-items : goal.actuals-returns-in_err-items
unfolding actuals_with arguments_with
actuals-returns-in_err-items t c = grind (arith, common_steps)

pub actuals-returns-in_err-expect-3 : goal.actuals-returns-in_err-expect-3
unfolding actuals_with arguments_with
actuals-returns-in_err-expect-3 t c = grind (arith, common_steps)

pub actuals-returns : goal.actuals-returns
unfolding actuals_with arguments_with
actuals-returns t c = grind (arith, common_steps)

pub designator-returns-in_err-first : goal.designator-returns-in_err-first
unfolding designator_with
designator-returns-in_err-first t c =
    handed_on _ _ _ c.from_residual.result c.from_residual.ensures.1 (fails _ _ _ c.in_err-first.ensures)

pub designator-returns-in_err-others : goal.designator-returns-in_err-others
unfolding designator_with
designator-returns-in_err-others t c =
    handed_on _ _ _ c.from_residual-in_err-others.result c.from_residual-in_err-others.ensures.1
    (fails_behind _ _ _ c.in_ok-first.ensures (fails _ _ _ c.in_err-others.ensures))

pub designator-returns : goal.designator-returns
unfolding designator_with
designator-returns t c = grind (arith, common_steps, designator_seen)

pub selector-returns-in_err-name : goal.selector-returns-in_err-name
unfolding selector_with
selector-returns-in_err-name t c = grind (arith, common_steps)

pub selector-returns-in-Some : goal.selector-returns-in-Some
unfolding selector_with
selector-returns-in-Some t c = grind (arith, common_steps, field_seen, index_seen, deref_seen)

pub selector-returns-in_err-items : goal.selector-returns-in_err-items
unfolding selector_with
selector-returns-in_err-items t c = grind (arith, common_steps)

pub selector-returns-in_err-expect : goal.selector-returns-in_err-expect
unfolding selector_with
selector-returns-in_err-expect t c = grind (arith, common_steps)

pub selector-returns-in-Some-next_if : goal.selector-returns-in-Some-next_if
unfolding selector_with
selector-returns-in-Some-next_if t c = grind (arith, common_steps, field_seen, index_seen, deref_seen)

pub selector-returns-in_err-arrow : goal.selector-returns-in_err-arrow
unfolding selector_with
selector-returns-in_err-arrow t c = grind (arith, common_steps)

pub selector-returns : goal.selector-returns
unfolding selector_with
selector-returns t c = grind (arith, common_steps, field_seen, index_seen, deref_seen)

pub term-returns-in_err-first : goal.term-returns-in_err-first
unfolding term_with
term-returns-in_err-first t c =
    handed_on _ _ _ c.from_residual.result c.from_residual.ensures.1 (fails _ _ _ c.in_err-first.ensures)

pub term-returns-in_err-others : goal.term-returns-in_err-others
unfolding term_with
term-returns-in_err-others t c =
    handed_on _ _ _ c.from_residual-in_err-others.result c.from_residual-in_err-others.ensures.1
    (fails_behind _ _ _ c.in_ok-first.ensures (fails _ _ _ c.in_err-others.ensures))

pub term-returns-in_err-with_operators : goal.term-returns-in_err-with_operators
unfolding term_with
term-returns-in_err-with_operators t c = grind (arith, common_steps)

pub term-returns : goal.term-returns
unfolding term_with
term-returns t c = grind (arith, common_steps)

pub next_factor-returns-in_err-sign : goal.next_factor-returns-in_err-sign
unfolding next_factor_with
next_factor-returns-in_err-sign t c =
    handed_on _ _ _ c.from_residual.result c.from_residual.ensures.1 (fails _ _ _ c.in_err-sign.ensures)

pub next_factor-returns-in_err-right : goal.next_factor-returns-in_err-right
unfolding next_factor_with
next_factor-returns-in_err-right t c =
    handed_on _ _ _ c.from_residual-in_err-right.result c.from_residual-in_err-right.ensures.1
    (fails_behind _ _ _ c.in_ok-sign.ensures (fails _ _ _ c.in_err-right.ensures))

pub next_factor-returns : goal.next_factor-returns
unfolding next_factor_with
next_factor-returns t c = grind (arith, common_steps, next_seen)

pub first_term-returns-then-not-is_sign : goal.first_term-returns-then-not-is_sign
unfolding first_term_with
first_term-returns-then-not-is_sign t c = grind (arith, common_steps, expr_seen, one_seen)

pub first_term-returns-in_err-sign : goal.first_term-returns-in_err-sign
unfolding first_term_with
first_term-returns-in_err-sign t c = grind (arith, common_steps)

pub first_term-returns-in_err-of : goal.first_term-returns-in_err-of
unfolding first_term_with
first_term-returns-in_err-of t c = grind (arith, common_steps)

pub first_term-returns-in_err-new : goal.first_term-returns-in_err-new
unfolding first_term_with
first_term-returns-in_err-new t c = grind (arith, common_steps)

pub first_term-returns : goal.first_term-returns
unfolding first_term_with
first_term-returns t c = grind (arith, common_steps, expr_seen, one_seen)

pub sum-returns-in_err-first : goal.sum-returns-in_err-first
unfolding sum_with
sum-returns-in_err-first t c =
    handed_on _ _ _ c.from_residual.result c.from_residual.ensures.1 (fails _ _ _ c.in_err-first.ensures)

pub sum-returns-in_err-others : goal.sum-returns-in_err-others
unfolding sum_with
sum-returns-in_err-others t c =
    handed_on _ _ _ c.from_residual-in_err-others.result c.from_residual-in_err-others.ensures.1
    (fails_behind _ _ _ c.in_ok-first.ensures (fails _ _ _ c.in_err-others.ensures))

pub sum-returns-in_err-with_operators : goal.sum-returns-in_err-with_operators
unfolding sum_with
sum-returns-in_err-with_operators t c = grind (arith, common_steps)

pub sum-returns : goal.sum-returns
unfolding sum_with
sum-returns t c = grind (arith, common_steps)

pub next_term-returns-in_err-sign : goal.next_term-returns-in_err-sign
unfolding next_term_with
next_term-returns-in_err-sign t c =
    handed_on _ _ _ c.from_residual.result c.from_residual.ensures.1 (fails _ _ _ c.in_err-sign.ensures)

pub next_term-returns-in_err-right : goal.next_term-returns-in_err-right
unfolding next_term_with
next_term-returns-in_err-right t c =
    handed_on _ _ _ c.from_residual-in_err-right.result c.from_residual-in_err-right.ensures.1
    (fails_behind _ _ _ c.in_ok-sign.ensures (fails _ _ _ c.in_err-right.ensures))

pub next_term-returns : goal.next_term-returns
unfolding next_term_with
next_term-returns t c = grind (arith, common_steps, next_seen)

pub expr-returns-in_err-first : goal.expr-returns-in_err-first
unfolding expr_with
expr-returns-in_err-first t c =
    handed_on _ _ _ c.from_residual.result c.from_residual.ensures.1 (fails _ _ _ c.in_err-first.ensures)

pub expr-returns-then-not-is_relation : goal.expr-returns-then-not-is_relation
unfolding expr_with relation_with
expr-returns-then-not-is_relation t c = grind (arith, common_steps, next_seen)

pub expr-returns-in_err-sign : goal.expr-returns-in_err-sign
unfolding expr_with relation_with
expr-returns-in_err-sign t c = grind (arith, common_steps)

pub expr-returns-in_err-right : goal.expr-returns-in_err-right
unfolding expr_with relation_with
expr-returns-in_err-right t c = grind (arith, common_steps)

pub expr-returns-in_err-with_operator : goal.expr-returns-in_err-with_operator
unfolding expr_with relation_with
expr-returns-in_err-with_operator t c = grind (arith, common_steps)

pub expr-returns : goal.expr-returns
unfolding expr_with relation_with
expr-returns t c = grind (arith, common_steps, next_seen)
