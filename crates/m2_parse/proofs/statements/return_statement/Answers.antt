use Rattle.std.proofs.Common.{arith}
use Rattle.std.proofs.lemmas.Grind.{common_steps}
use Rattle.m2_base.proofs.Seen.{return_seen, statement_seen}
use Rattle.m2_parse.specs.ReadStatements.{optional_expr_at, return_at}
use Rattle.m2_parse.proofs.statements.return_statement.Goals as goal

pub returns-in_err-word : goal.returns-in_err-word
unfolding return_at optional_expr_at
returns-in_err-word c = grind (arith, common_steps)

pub returns-then-not-begins_expr : goal.returns-then-not-begins_expr
unfolding return_at optional_expr_at
returns-then-not-begins_expr c = grind (arith, common_steps, statement_seen, return_seen)

pub returns-in_err-value : goal.returns-in_err-value
unfolding return_at optional_expr_at
returns-in_err-value c = grind (arith, common_steps)

pub returns : goal.returns
unfolding return_at optional_expr_at
returns c = grind (arith, common_steps, statement_seen, return_seen)
