use Rattle.std.proofs.Common.{◌+◌, ◌*◌, map}
use Rattle.ll_grammar.specs.Readers.{itself, all}
use Rattle.ll_grammar.proofs.Loops.{SeparatedSoFar, RepeatSoFar}
use Rattle.m2_base.specs.Grammar.{number_of_token}
use Rattle.m2_base.specs.Views.{statement_view, if_arm_view, case_arm_view}
use Rattle.m2_base.specs.declared.kind.TokenKind.TheVariants.{Elsif}
use Rattle.m2_parse.specs.Reading.{next_is}
use Rattle.m2_parse.specs.ReadStatements.{statement_at, optional_statement_with, statements_with, elsif_with, elsifs_with, arm_with, arms_with}
use Rattle.m2_parse.proofs.statements.+statements.Given as goal

abbrev pub decreases-statement : goal.decreases-statement
decreases-statement l = 9 * l.depth + 0

abbrev pub decreases-optional_statement : goal.decreases-optional_statement
decreases-optional_statement l = 9 * l.depth + 1

abbrev pub decreases-statements : goal.decreases-statements
decreases-statements l = 9 * l.depth + 2

abbrev pub decreases-otherwise : goal.decreases-otherwise
decreases-otherwise l = 9 * l.depth + 3

abbrev pub decreases-if_arm : goal.decreases-if_arm
decreases-if_arm l = 9 * l.depth + 3

abbrev pub decreases-elsif : goal.decreases-elsif
decreases-elsif l = 9 * l.depth + 4

abbrev pub decreases-elsifs : goal.decreases-elsifs
decreases-elsifs l = 9 * l.depth + 5

abbrev pub decreases-if_arms : goal.decreases-if_arms
decreases-if_arms l = 9 * l.depth + 6

abbrev pub decreases-if_statement : goal.decreases-if_statement
decreases-if_statement l = 9 * l.depth + 7

abbrev pub decreases-arm : goal.decreases-arm
decreases-arm l = 9 * l.depth + 3

abbrev pub decreases-arms : goal.decreases-arms
decreases-arms l = 9 * l.depth + 4

abbrev pub decreases-case_statement : goal.decreases-case_statement
decreases-case_statement l = 9 * l.depth + 5

abbrev pub decreases-body : goal.decreases-body
decreases-body l = 9 * l.depth + 3

abbrev pub decreases-while_statement : goal.decreases-while_statement
decreases-while_statement l = 9 * l.depth + 4

abbrev pub decreases-repeat_statement : goal.decreases-repeat_statement
decreases-repeat_statement l = 9 * l.depth + 3

abbrev pub decreases-loop_statement : goal.decreases-loop_statement
decreases-loop_statement l = 9 * l.depth + 3

abbrev pub decreases-for_statement : goal.decreases-for_statement
decreases-for_statement l = 9 * l.depth + 4

abbrev pub decreases-with_statement : goal.decreases-with_statement
decreases-with_statement l = 9 * l.depth + 4

abbrev pub decreases-inner_statement : goal.decreases-inner_statement
decreases-inner_statement l = 9 * l.depth + 8

abbrev pub invariant-statements-loop : goal.invariant-statements-loop
invariant-statements-loop l =
    SeparatedSoFar number_of_token 57 (optional_statement_with l.depth (statement_at l.depth)) itself (map statement_view l.items.items) l.end l.counter l.tokens.list.now (statements_with l.depth (statement_at l.depth) l.fn.tokens.list.now)

abbrev pub invariant-arms-loop : goal.invariant-arms-loop
invariant-arms-loop l =
    SeparatedSoFar number_of_token 73 (arm_with l.depth (statement_at l.depth)) all (map case_arm_view l.items.items) l.end l.counter l.tokens.list.now (arms_with l.depth (statement_at l.depth) l.fn.tokens.list.now)

abbrev pub invariant-elsifs-loop : goal.invariant-elsifs-loop
invariant-elsifs-loop l =
    RepeatSoFar (next_is Elsif) (elsif_with l.depth (statement_at l.depth)) itself (map if_arm_view l.items.items) l.end l.counter l.tokens.list.now (elsifs_with l.depth (statement_at l.depth) l.fn.tokens.list.now)
