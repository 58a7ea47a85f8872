use Rattle.std.proofs.Common.{refl, ap, ◌∙◌, map, arith}
use Rattle.std.proofs.lemmas.Grind.{common_steps}
use Rattle.std.proofs.lemmas.List.{map_push, map-append}
use Rattle.ll_grammar.proofs.Loops.{listed_starts, repeat_goes_on, repeat_ends, repeat_stops, repeat_is_done, separated_is_done}
use Rattle.m2_base.specs.Views.{statement_view, if_arm_view, case_arm_view}
use Rattle.m2_base.proofs.Seen.{case_arm_made, empty_seen, for_seen, if_arm_made, loop_seen, repeat_seen, statement_seen, while_seen, with_seen}
use Rattle.m2_parse.specs.Reading.{until}
use Rattle.m2_parse.specs.ReadStatements.{arm_with, body_with, case_with, elsif_with, for_with, if_arm_with, if_arms_with, if_with, loop_with, optional_statement_with, otherwise_with, repeat_with, statement_at, while_with, with_with}
use Rattle.m2_parse.proofs.ListLemmas.{list_goes_on, list_ends, list_stops}
use Rattle.m2_parse.proofs.Others.{case_is, if_is, statement_is}
use Rattle.m2_parse.proofs.Steps.{as_read, fails, fails_behind, gives_behind, goes_on, handed_on, seen_as, until_behind, until_fails, until_gives}
use Rattle.m2_parse.proofs.Bodies.{after_arms, arms_behind, arms_fail, arms_give, body_fails, body_gives, limit_behind, limit_fails, limit_gives}
use Rattle.m2_parse.proofs.statements.+statements.Goals as goal

pub statements-returns-in_default : goal.statements-returns-in_default
statements-returns-in_default t c = list_stops c.loop.invariant c.loop-test.true c.in_default.ensures.0 c.in_default.ensures.1

pub statements-returns-in_err-first : goal.statements-returns-in_err-first
statements-returns-in_err-first t c = handed_on _ _ _ c.from_residual.result c.from_residual.ensures.1 (fails _ _ _ c.in_err-first.ensures)

pub statements-returns-in_err-item : goal.statements-returns-in_err-item
statements-returns-in_err-item t c =
    handed_on _ _ _ c.from_residual-in_err-item.result c.from_residual-in_err-item.ensures.1 (list_ends _ c.loop.invariant c.loop-test.true c.in-Some.ensures.1 c.in_err-item.ensures)

pub statements-loop-init : goal.statements-loop-init
statements-loop-init t c = listed_starts _ c.in_ok-first.ensures (ap (map statement_view) c.in_ok-items.ensures)

pub statements-loop-preserved : goal.statements-loop-preserved
statements-loop-preserved t c =
    list_goes_on c.loop.invariant c.loop-test.true c.in-Some.ensures.1 c.in_ok-item.ensures
    (ap (map statement_view) c.in_ok-push.ensures.items ∙ map_push statement_view c.loop.items.items c.in_ok-item.item)

pub statements-returns : goal.statements-returns
statements-returns t c = separated_is_done c.loop.invariant c.loop-test.false

pub arms-returns-in_default : goal.arms-returns-in_default
arms-returns-in_default t c = list_stops c.loop.invariant c.loop-test.true c.in_default.ensures.0 c.in_default.ensures.1

pub arms-returns-in_err-items : goal.arms-returns-in_err-items
arms-returns-in_err-items t c = handed_on _ _ _ c.from_residual.result c.from_residual.ensures.1 (fails _ _ _ c.in_err-items.ensures)

pub arms-returns-in_err-more : goal.arms-returns-in_err-more
arms-returns-in_err-more t c =
    handed_on _ _ _ c.from_residual-in_err-more.result c.from_residual-in_err-more.ensures.1 (list_ends _ c.loop.invariant c.loop-test.true c.in-Some.ensures.1 c.in_err-more.ensures)

pub arms-loop-init : goal.arms-loop-init
arms-loop-init t c = listed_starts _ c.in_ok-items.ensures refl

pub arms-loop-preserved : goal.arms-loop-preserved
arms-loop-preserved t c =
    list_goes_on c.loop.invariant c.loop-test.true c.in-Some.ensures.1 c.in_ok-more.ensures
    (ap (map case_arm_view) c.in_ok-append.ensures.items ∙ map-append case_arm_view c.loop.items.items c.in_ok-more.more.items)

pub arms-returns : goal.arms-returns
arms-returns t c = separated_is_done c.loop.invariant c.loop-test.false

pub elsifs-returns-then-not-next_is : goal.elsifs-returns-then-not-next_is
elsifs-returns-then-not-next_is t c = repeat_stops c.loop.invariant c.loop-test.true c.if-not-next_is.true c.next_is.ensures

pub elsifs-returns-in_err-item : goal.elsifs-returns-in_err-item
elsifs-returns-in_err-item t c =
    handed_on _ _ _ c.from_residual.result c.from_residual.ensures.1 (repeat_ends _ c.loop.invariant c.loop-test.true c.if-not-next_is.false c.next_is.ensures c.in_err-item.ensures)

pub elsifs-loop-preserved : goal.elsifs-loop-preserved
elsifs-loop-preserved t c =
    repeat_goes_on c.loop.invariant c.loop-test.true c.if-not-next_is.false c.next_is.ensures c.in_ok-item.ensures
    (ap (map if_arm_view) c.in_ok-push.ensures.items ∙ map_push if_arm_view c.loop.items.items c.in_ok-item.item)

pub elsifs-returns : goal.elsifs-returns
elsifs-returns t c = repeat_is_done c.loop.invariant c.loop-test.false

pub optional_statement-returns-then-begins_statement : goal.optional_statement-returns-then-begins_statement
unfolding optional_statement_with
optional_statement-returns-then-begins_statement t c = grind (arith, common_steps, statement_seen, empty_seen)

pub optional_statement-returns : goal.optional_statement-returns
unfolding optional_statement_with
optional_statement-returns t c = grind (arith, common_steps, statement_seen, empty_seen)

pub otherwise-returns-in_default : goal.otherwise-returns-in_default
unfolding otherwise_with
otherwise-returns-in_default t c = grind (arith, common_steps)

pub otherwise-returns-in_err-found : goal.otherwise-returns-in_err-found
unfolding otherwise_with
otherwise-returns-in_err-found t c = grind (arith, common_steps)

pub otherwise-returns : goal.otherwise-returns
unfolding otherwise_with
otherwise-returns t c = grind (arith, common_steps)

pub if_arm-returns-in_err-test : goal.if_arm-returns-in_err-test
unfolding if_arm_with
if_arm-returns-in_err-test t c =
    handed_on _ _ _ c.from_residual.result c.from_residual.ensures.1 (until_fails _ _ _ _ c.in_err-test.ensures)

pub if_arm-returns-in_err-body : goal.if_arm-returns-in_err-body
unfolding if_arm_with
if_arm-returns-in_err-body t c =
    handed_on _ _ _ c.from_residual-in_err-body.result c.from_residual-in_err-body.ensures.1
    (until_behind _ _ _ _ c.in_ok-test.ensures λ mid u. fails _ _ _ c.in_err-body.ensures)

pub if_arm-returns : goal.if_arm-returns
unfolding if_arm_with
if_arm-returns t c =
    seen_as
    (until_gives _ _ _ c.in_ok-test.ensures λ mid u. gives_behind _ _ c.in_ok-body.ensures refl) (if_arm_made c.in_ok-test.test c.in_ok-body.body)

pub elsif-returns-in_err-expect : goal.elsif-returns-in_err-expect
unfolding elsif_with
elsif-returns-in_err-expect t c =
    handed_on _ _ _ c.from_residual.result c.from_residual.ensures.1 (fails _ _ _ c.in_err-expect.ensures.gives)

pub elsif-returns : goal.elsif-returns
unfolding elsif_with
elsif-returns t c = goes_on _ _ _ _ c.in_ok-expect.ensures.gives (as_read _ _ _ c.if_arm.ensures)

pub if_arms-returns-in_err-first : goal.if_arms-returns-in_err-first
unfolding if_arms_with
if_arms-returns-in_err-first t c =
    handed_on _ _ _ c.from_residual.result c.from_residual.ensures.1 (fails _ _ _ c.in_err-first.ensures)

pub if_arms-returns-in_err-others : goal.if_arms-returns-in_err-others
unfolding if_arms_with
if_arms-returns-in_err-others t c =
    handed_on _ _ _ c.from_residual-in_err-others.result c.from_residual-in_err-others.ensures.1
    (fails_behind _ _ _ c.in_ok-first.ensures (fails _ _ _ c.in_err-others.ensures))

pub if_arms-returns-in_err-arms : goal.if_arms-returns-in_err-arms
unfolding if_arms_with
if_arms-returns-in_err-arms t c = grind (arith, common_steps)

pub if_arms-returns : goal.if_arms-returns
unfolding if_arms_with
if_arms-returns t c =
    seen_as (gives_behind _ _ c.in_ok-first.ensures (gives_behind _ _ c.in_ok-others.ensures refl))
    (ap (map if_arm_view) c.in_ok-arms.ensures)

pub if_statement-returns-in_err-word : goal.if_statement-returns-in_err-word
unfolding if_with
if_statement-returns-in_err-word t c =
    handed_on _ _ _ c.from_residual.result c.from_residual.ensures.1 (fails _ _ _ c.in_err-word.ensures.gives)

pub if_statement-returns-in_err-arms : goal.if_statement-returns-in_err-arms
unfolding if_with
if_statement-returns-in_err-arms t c =
    handed_on _ _ _ c.from_residual-in_err-arms.result c.from_residual-in_err-arms.ensures.1
    (fails_behind _ _ _ c.in_ok-word.ensures.gives
    (arms_fail _ _ _ (after_arms c.args.depth (statement_at c.args.depth) c.in_ok-word.word.at) _ c.in_err-arms.ensures))

pub if_statement-returns-in_err-other : goal.if_statement-returns-in_err-other
unfolding if_with
if_statement-returns-in_err-other t c =
    handed_on _ _ _ c.from_residual-in_err-other.result c.from_residual-in_err-other.ensures.1
    (fails_behind _ _ _ c.in_ok-word.ensures.gives
    (arms_behind _ _ _ (after_arms c.args.depth (statement_at c.args.depth) c.in_ok-word.word.at) _ c.in_ok-arms.ensures
    (fails _ _ _ c.in_err-other.ensures)))

pub if_statement-returns-in_err-expect : goal.if_statement-returns-in_err-expect
unfolding if_with
if_statement-returns-in_err-expect t c =
    handed_on _ _ _ c.from_residual-in_err-expect.result c.from_residual-in_err-expect.ensures.1
    (fails_behind _ _ _ c.in_ok-word.ensures.gives
    (arms_behind _ _ _ (after_arms c.args.depth (statement_at c.args.depth) c.in_ok-word.word.at) _ c.in_ok-arms.ensures
    (fails_behind _ _ _ c.in_ok-other.ensures (fails _ _ _ c.in_err-expect.ensures.gives))))

pub if_statement-returns : goal.if_statement-returns
unfolding if_with
if_statement-returns t c =
    seen_as (gives_behind _ _ c.in_ok-word.ensures.gives (arms_give _ _ _ (after_arms c.args.depth (statement_at c.args.depth) c.in_ok-word.word.at) c.in_ok-arms.ensures
    (gives_behind _ _ c.in_ok-other.ensures (gives_behind _ _ c.in_ok-expect.ensures.gives refl))))
    (statement_is c.in_ok-word.word.at _ (if_is c.in_ok-arms.arms c.other_statements-other.result c.other_statements-other.ensures))

pub arm-returns-then-not-begins_expr : goal.arm-returns-then-not-begins_expr
unfolding arm_with
arm-returns-then-not-begins_expr t c = grind (arith, common_steps, case_arm_made)

pub arm-returns-in_err-labels : goal.arm-returns-in_err-labels
unfolding arm_with
arm-returns-in_err-labels t c = grind (arith, common_steps)

pub arm-returns-in_err-expect : goal.arm-returns-in_err-expect
unfolding arm_with
arm-returns-in_err-expect t c = grind (arith, common_steps)

pub arm-returns-in_err-body : goal.arm-returns-in_err-body
unfolding arm_with
arm-returns-in_err-body t c = grind (arith, common_steps)

pub arm-returns-in_err-list_of : goal.arm-returns-in_err-list_of
unfolding arm_with
arm-returns-in_err-list_of t c = grind (arith, common_steps)

pub arm-returns : goal.arm-returns
unfolding arm_with
arm-returns t c = grind (arith, common_steps, case_arm_made)

pub case_statement-returns-in_err-word : goal.case_statement-returns-in_err-word
unfolding case_with
case_statement-returns-in_err-word t c =
    handed_on _ _ _ c.from_residual.result c.from_residual.ensures.1 (fails _ _ _ c.in_err-word.ensures.gives)

pub case_statement-returns-in_err-value : goal.case_statement-returns-in_err-value
unfolding case_with
case_statement-returns-in_err-value t c =
    handed_on _ _ _ c.from_residual-in_err-value.result c.from_residual-in_err-value.ensures.1
    (fails_behind _ _ _ c.in_ok-word.ensures.gives (until_fails _ _ _ _ c.in_err-value.ensures))

pub case_statement-returns-in_err-arms : goal.case_statement-returns-in_err-arms
unfolding case_with
case_statement-returns-in_err-arms t c =
    handed_on _ _ _ c.from_residual-in_err-arms.result c.from_residual-in_err-arms.ensures.1
    (fails_behind _ _ _ c.in_ok-word.ensures.gives (until_behind _ _ _ _ c.in_ok-value.ensures λ mid u.
    fails _ _ _ c.in_err-arms.ensures))

pub case_statement-returns-in_err-other : goal.case_statement-returns-in_err-other
unfolding case_with
case_statement-returns-in_err-other t c =
    handed_on _ _ _ c.from_residual-in_err-other.result c.from_residual-in_err-other.ensures.1
    (fails_behind _ _ _ c.in_ok-word.ensures.gives
    (until_behind _ _ _ _ c.in_ok-value.ensures λ mid u. fails_behind _ _ _ c.in_ok-arms.ensures
    (fails _ _ _ c.in_err-other.ensures)))

pub case_statement-returns-in_err-expect : goal.case_statement-returns-in_err-expect
unfolding case_with
case_statement-returns-in_err-expect t c =
    handed_on _ _ _ c.from_residual-in_err-expect.result c.from_residual-in_err-expect.ensures.1
    (fails_behind _ _ _ c.in_ok-word.ensures.gives
    (until_behind _ _ _ _ c.in_ok-value.ensures λ mid u. fails_behind _ _ _ c.in_ok-arms.ensures
    (fails_behind _ _ _ c.in_ok-other.ensures (fails _ _ _ c.in_err-expect.ensures.gives))))

pub case_statement-returns : goal.case_statement-returns
unfolding case_with
case_statement-returns t c =
    seen_as (gives_behind _ _ c.in_ok-word.ensures.gives
    (until_gives _ _ _ c.in_ok-value.ensures λ mid u. gives_behind _ _ c.in_ok-arms.ensures
    (gives_behind _ _ c.in_ok-other.ensures (gives_behind _ _ c.in_ok-expect.ensures.gives refl))))
    (statement_is c.in_ok-word.word.at _ (case_is c.in_ok-value.value c.in_ok-arms.arms c.in_ok-other.other))

pub body-returns-in_err-expect : goal.body-returns-in_err-expect
unfolding body_with until
body-returns-in_err-expect t c =
    handed_on _ _ _ c.from_residual.result c.from_residual.ensures.1 (fails _ _ _ c.in_err-expect.ensures.gives)

pub body-returns-in_err-found : goal.body-returns-in_err-found
unfolding body_with until
body-returns-in_err-found t c =
    handed_on _ _ _ c.from_residual-in_err-found.result c.from_residual-in_err-found.ensures.1
    (fails_behind _ _ _ c.in_ok-expect.ensures.gives (fails _ _ _ c.in_err-found.ensures))

pub body-returns-in_err-expect-2 : goal.body-returns-in_err-expect-2
unfolding body_with until
body-returns-in_err-expect-2 t c =
    handed_on _ _ _ c.from_residual-in_err-expect-2.result c.from_residual-in_err-expect-2.ensures.1
    (fails_behind _ _ _ c.in_ok-expect.ensures.gives (fails_behind _ _ _ c.in_ok-found.ensures
    (fails _ _ _ c.in_err-expect-2.ensures.gives)))

pub body-returns : goal.body-returns
unfolding body_with until
body-returns t c =
    gives_behind _ _ c.in_ok-expect.ensures.gives (gives_behind _ _ c.in_ok-found.ensures
    (gives_behind _ _ c.in_ok-expect-2.ensures.gives refl))

pub while_statement-returns-in_err-word : goal.while_statement-returns-in_err-word
unfolding while_with
while_statement-returns-in_err-word t c =
    handed_on _ _ _ c.from_residual.result c.from_residual.ensures.1 (fails _ _ _ c.in_err-word.ensures.gives)

pub while_statement-returns-in_err-test : goal.while_statement-returns-in_err-test
unfolding while_with
while_statement-returns-in_err-test t c =
    handed_on _ _ _ c.from_residual-in_err-test.result c.from_residual-in_err-test.ensures.1
    (fails_behind _ _ _ c.in_ok-word.ensures.gives (fails _ _ _ c.in_err-test.ensures))

pub while_statement-returns-in_err-body : goal.while_statement-returns-in_err-body
unfolding while_with
while_statement-returns-in_err-body t c =
    handed_on _ _ _ c.from_residual-in_err-body.result c.from_residual-in_err-body.ensures.1
    (fails_behind _ _ _ c.in_ok-word.ensures.gives (fails_behind _ _ _ c.in_ok-test.ensures
    (body_fails _ _ _ _ _ c.in_err-body.ensures)))

pub while_statement-returns : goal.while_statement-returns
unfolding while_with
while_statement-returns t c =
    seen_as (gives_behind _ _ c.in_ok-word.ensures.gives (gives_behind _ _ c.in_ok-test.ensures
    (body_gives _ _ _ _ c.in_ok-body.ensures λ d mid u. refl)))
    (statement_is c.in_ok-word.word.at _ (while_seen c.in_ok-test.test c.in_ok-body.body))

pub repeat_statement-returns-in_err-word : goal.repeat_statement-returns-in_err-word
unfolding repeat_with
repeat_statement-returns-in_err-word t c =
    handed_on _ _ _ c.from_residual.result c.from_residual.ensures.1 (fails _ _ _ c.in_err-word.ensures.gives)

pub repeat_statement-returns-in_err-body : goal.repeat_statement-returns-in_err-body
unfolding repeat_with
repeat_statement-returns-in_err-body t c =
    handed_on _ _ _ c.from_residual-in_err-body.result c.from_residual-in_err-body.ensures.1
    (fails_behind _ _ _ c.in_ok-word.ensures.gives (fails _ _ _ c.in_err-body.ensures))

pub repeat_statement-returns-in_err-expect : goal.repeat_statement-returns-in_err-expect
unfolding repeat_with
repeat_statement-returns-in_err-expect t c =
    handed_on _ _ _ c.from_residual-in_err-expect.result c.from_residual-in_err-expect.ensures.1
    (fails_behind _ _ _ c.in_ok-word.ensures.gives (fails_behind _ _ _ c.in_ok-body.ensures
    (fails _ _ _ c.in_err-expect.ensures.gives)))

pub repeat_statement-returns-in_err-test : goal.repeat_statement-returns-in_err-test
unfolding repeat_with
repeat_statement-returns-in_err-test t c =
    handed_on _ _ _ c.from_residual-in_err-test.result c.from_residual-in_err-test.ensures.1
    (fails_behind _ _ _ c.in_ok-word.ensures.gives (fails_behind _ _ _ c.in_ok-body.ensures
    (fails_behind _ _ _ c.in_ok-expect.ensures.gives (fails _ _ _ c.in_err-test.ensures))))

pub repeat_statement-returns : goal.repeat_statement-returns
unfolding repeat_with
repeat_statement-returns t c =
    seen_as (gives_behind _ _ c.in_ok-word.ensures.gives (gives_behind _ _ c.in_ok-body.ensures
    (gives_behind _ _ c.in_ok-expect.ensures.gives (gives_behind _ _ c.in_ok-test.ensures refl))))
    (statement_is c.in_ok-word.word.at _ (repeat_seen c.in_ok-body.body c.in_ok-test.test))

pub loop_statement-returns-in_err-word : goal.loop_statement-returns-in_err-word
unfolding loop_with
loop_statement-returns-in_err-word t c =
    handed_on _ _ _ c.from_residual.result c.from_residual.ensures.1 (fails _ _ _ c.in_err-word.ensures.gives)

pub loop_statement-returns-in_err-body : goal.loop_statement-returns-in_err-body
unfolding loop_with
loop_statement-returns-in_err-body t c =
    handed_on _ _ _ c.from_residual-in_err-body.result c.from_residual-in_err-body.ensures.1
    (fails_behind _ _ _ c.in_ok-word.ensures.gives (fails _ _ _ c.in_err-body.ensures))

pub loop_statement-returns-in_err-expect : goal.loop_statement-returns-in_err-expect
unfolding loop_with
loop_statement-returns-in_err-expect t c =
    handed_on _ _ _ c.from_residual-in_err-expect.result c.from_residual-in_err-expect.ensures.1
    (fails_behind _ _ _ c.in_ok-word.ensures.gives (fails_behind _ _ _ c.in_ok-body.ensures
    (fails _ _ _ c.in_err-expect.ensures.gives)))

pub loop_statement-returns : goal.loop_statement-returns
unfolding loop_with
loop_statement-returns t c =
    seen_as (gives_behind _ _ c.in_ok-word.ensures.gives (gives_behind _ _ c.in_ok-body.ensures
    (gives_behind _ _ c.in_ok-expect.ensures.gives refl)))
    (statement_is c.in_ok-word.word.at _ (loop_seen c.in_ok-body.body))

pub for_statement-returns-in_err-word : goal.for_statement-returns-in_err-word
unfolding for_with
for_statement-returns-in_err-word t c =
    handed_on _ _ _ c.from_residual.result c.from_residual.ensures.1 (fails _ _ _ c.in_err-word.ensures.gives)

pub for_statement-returns-in_err-name : goal.for_statement-returns-in_err-name
unfolding for_with
for_statement-returns-in_err-name t c =
    handed_on _ _ _ c.from_residual-in_err-name.result c.from_residual-in_err-name.ensures.1
    (fails_behind _ _ _ c.in_ok-word.ensures.gives (fails _ _ _ c.in_err-name.ensures))

pub for_statement-returns-in_err-expect : goal.for_statement-returns-in_err-expect
unfolding for_with
for_statement-returns-in_err-expect t c =
    handed_on _ _ _ c.from_residual-in_err-expect.result c.from_residual-in_err-expect.ensures.1
    (fails_behind _ _ _ c.in_ok-word.ensures.gives (fails_behind _ _ _ c.in_ok-name.ensures
    (fails _ _ _ c.in_err-expect.ensures.gives)))

pub for_statement-returns-in_err-first : goal.for_statement-returns-in_err-first
unfolding for_with
for_statement-returns-in_err-first t c =
    handed_on _ _ _ c.from_residual-in_err-first.result c.from_residual-in_err-first.ensures.1
    (fails_behind _ _ _ c.in_ok-word.ensures.gives (fails_behind _ _ _ c.in_ok-name.ensures
    (fails_behind _ _ _ c.in_ok-expect.ensures.gives (fails _ _ _ c.in_err-first.ensures))))

pub for_statement-returns-in_err-last : goal.for_statement-returns-in_err-last
unfolding for_with
for_statement-returns-in_err-last t c =
    handed_on _ _ _ c.from_residual-in_err-last.result c.from_residual-in_err-last.ensures.1
    (fails_behind _ _ _ c.in_ok-word.ensures.gives (fails_behind _ _ _ c.in_ok-name.ensures
    (fails_behind _ _ _ c.in_ok-expect.ensures.gives (fails_behind _ _ _ c.in_ok-first.ensures
    (limit_fails _ _ _ _ c.in_err-last.ensures)))))

pub for_statement-returns-in_err-body : goal.for_statement-returns-in_err-body
unfolding for_with
for_statement-returns-in_err-body t c =
    handed_on _ _ _ c.from_residual-in_err-body.result c.from_residual-in_err-body.ensures.1
    (fails_behind _ _ _ c.in_ok-word.ensures.gives (fails_behind _ _ _ c.in_ok-name.ensures
    (fails_behind _ _ _ c.in_ok-expect.ensures.gives (fails_behind _ _ _ c.in_ok-first.ensures
    (limit_behind _ _ _ _ c.in_ok-last.ensures λ o mid. body_fails _ _ _ _ _ c.in_err-body.ensures)))))

pub for_statement-returns : goal.for_statement-returns
unfolding for_with
for_statement-returns t c =
    seen_as (gives_behind _ _ c.in_ok-word.ensures.gives (gives_behind _ _ c.in_ok-name.ensures
    (gives_behind _ _ c.in_ok-expect.ensures.gives (gives_behind _ _ c.in_ok-first.ensures
    (limit_gives _ _ _ c.in_ok-last.ensures λ o mid. body_gives _ _ _ _ c.in_ok-body.ensures λ d mid u. refl)))))
    (statement_is c.in_ok-word.word.at _ (for_seen c.in_ok-name.name c.in_ok-first.first c.in_ok-last.last c.in_ok-last.by c.in_ok-body.body))

pub with_statement-returns-in_err-word : goal.with_statement-returns-in_err-word
unfolding with_with
with_statement-returns-in_err-word t c =
    handed_on _ _ _ c.from_residual.result c.from_residual.ensures.1 (fails _ _ _ c.in_err-word.ensures.gives)

pub with_statement-returns-in_err-of : goal.with_statement-returns-in_err-of
unfolding with_with
with_statement-returns-in_err-of t c =
    handed_on _ _ _ c.from_residual-in_err-of.result c.from_residual-in_err-of.ensures.1
    (fails_behind _ _ _ c.in_ok-word.ensures.gives (fails _ _ _ c.in_err-of.ensures))

pub with_statement-returns-in_err-body : goal.with_statement-returns-in_err-body
unfolding with_with
with_statement-returns-in_err-body t c =
    handed_on _ _ _ c.from_residual-in_err-body.result c.from_residual-in_err-body.ensures.1
    (fails_behind _ _ _ c.in_ok-word.ensures.gives (fails_behind _ _ _ c.in_ok-of.ensures
    (body_fails _ _ _ _ _ c.in_err-body.ensures)))

pub with_statement-returns : goal.with_statement-returns
unfolding with_with
with_statement-returns t c =
    seen_as (gives_behind _ _ c.in_ok-word.ensures.gives (gives_behind _ _ c.in_ok-of.ensures
    (body_gives _ _ _ _ c.in_ok-body.ensures λ d mid u. refl)))
    (statement_is c.in_ok-word.word.at _ (with_seen c.in_ok-of.of c.in_ok-body.body))
