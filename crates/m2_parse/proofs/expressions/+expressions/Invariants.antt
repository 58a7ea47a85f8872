use Rattle.std.proofs.Common.{◌+◌, ◌*◌, map}
use Rattle.ll_grammar.specs.Readers.{itself}
use Rattle.ll_grammar.proofs.Loops.{SeparatedSoFar, RepeatSoFar}
use Rattle.m2_base.specs.Grammar.{number_of_token, multiplying, adding}
use Rattle.m2_base.specs.Views.{expr_view, label_view, selector_view, next_view}
use Rattle.m2_parse.specs.Reading.{next_in}
use Rattle.m2_parse.specs.ReadExpressions.{factor_at, expr_with, exprs_with, label_with_upper, labels_with, begins_selector, selector_with, selectors_with, next_factor_with, factors_with, next_term_with, terms_with}
use Rattle.m2_parse.proofs.expressions.+expressions.Given as goal

abbrev pub decreases-factor : goal.decreases-factor
decreases-factor l = 14 * l.depth + 0

abbrev pub decreases-next_factor : goal.decreases-next_factor
decreases-next_factor l = 14 * l.depth + 1

abbrev pub decreases-negated : goal.decreases-negated
decreases-negated l = 14 * l.depth + 1

abbrev pub decreases-factors : goal.decreases-factors
decreases-factors l = 14 * l.depth + 2

abbrev pub decreases-term : goal.decreases-term
decreases-term l = 14 * l.depth + 3

abbrev pub decreases-next_term : goal.decreases-next_term
decreases-next_term l = 14 * l.depth + 4

abbrev pub decreases-first_term : goal.decreases-first_term
decreases-first_term l = 14 * l.depth + 4

abbrev pub decreases-terms : goal.decreases-terms
decreases-terms l = 14 * l.depth + 5

abbrev pub decreases-sum : goal.decreases-sum
decreases-sum l = 14 * l.depth + 6

abbrev pub decreases-expr : goal.decreases-expr
decreases-expr l = 14 * l.depth + 7

abbrev pub decreases-exprs : goal.decreases-exprs
decreases-exprs l = 14 * l.depth + 8

abbrev pub decreases-label : goal.decreases-label
decreases-label l = 14 * l.depth + 8

abbrev pub decreases-bracketed : goal.decreases-bracketed
decreases-bracketed l = 14 * l.depth + 8

abbrev pub decreases-labels : goal.decreases-labels
decreases-labels l = 14 * l.depth + 9

abbrev pub decreases-actuals : goal.decreases-actuals
decreases-actuals l = 14 * l.depth + 9

abbrev pub decreases-selector : goal.decreases-selector
decreases-selector l = 14 * l.depth + 9

abbrev pub decreases-set : goal.decreases-set
decreases-set l = 14 * l.depth + 10

abbrev pub decreases-selectors : goal.decreases-selectors
decreases-selectors l = 14 * l.depth + 10

abbrev pub decreases-designator : goal.decreases-designator
decreases-designator l = 14 * l.depth + 11

abbrev pub decreases-plain_set : goal.decreases-plain_set
decreases-plain_set l = 14 * l.depth + 11

abbrev pub decreases-designated : goal.decreases-designated
decreases-designated l = 14 * l.depth + 12

abbrev pub decreases-inner_factor : goal.decreases-inner_factor
decreases-inner_factor l = 14 * l.depth + 13

abbrev pub invariant-exprs-loop : goal.invariant-exprs-loop
invariant-exprs-loop l =
    SeparatedSoFar number_of_token 56 (expr_with (factor_at l.depth)) itself (map expr_view l.items.items) l.end l.counter l.tokens.list.now (exprs_with (factor_at l.depth) l.fn.tokens.list.now)

abbrev pub invariant-labels-loop : goal.invariant-labels-loop
invariant-labels-loop l =
    SeparatedSoFar number_of_token 56 (label_with_upper (factor_at l.depth)) itself (map label_view l.items.items) l.end l.counter l.tokens.list.now (labels_with (factor_at l.depth) l.fn.tokens.list.now)

abbrev pub invariant-selectors-loop : goal.invariant-selectors-loop
invariant-selectors-loop l =
    RepeatSoFar begins_selector (selector_with (factor_at l.depth)) itself (map selector_view l.items.items) l.end l.counter l.tokens.list.now (selectors_with (factor_at l.depth) l.fn.tokens.list.now)

abbrev pub invariant-factors-loop : goal.invariant-factors-loop
invariant-factors-loop l =
    RepeatSoFar (next_in multiplying) (next_factor_with (factor_at l.depth)) itself (map next_view l.items.items) l.end l.counter l.tokens.list.now (factors_with (factor_at l.depth) l.fn.tokens.list.now)

abbrev pub invariant-terms-loop : goal.invariant-terms-loop
invariant-terms-loop l =
    RepeatSoFar (next_in adding) (next_term_with (factor_at l.depth)) itself (map next_view l.items.items) l.end l.counter l.tokens.list.now (terms_with (factor_at l.depth) l.fn.tokens.list.now)
