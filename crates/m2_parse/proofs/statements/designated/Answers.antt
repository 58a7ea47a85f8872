use Rattle.std.proofs.Common.{arith}
use Rattle.std.proofs.lemmas.Grind.{common_steps}
use Rattle.m2_base.proofs.Seen.{assign_seen, designator_seen, invoke_seen, statement_seen}
use Rattle.m2_parse.specs.ReadStatements.{assigned_at, designated_at, optional_actuals_at}
use Rattle.m2_parse.proofs.statements.designated.Goals as goal

pub returns-in_err-to : goal.returns-in_err-to
unfolding designated_at assigned_at optional_actuals_at
returns-in_err-to c = grind (arith, common_steps)

pub returns-in_err-value : goal.returns-in_err-value
unfolding designated_at assigned_at optional_actuals_at
returns-in_err-value c = grind (arith, common_steps)

pub returns-in-Some : goal.returns-in-Some
unfolding designated_at assigned_at optional_actuals_at
returns-in-Some c = grind (arith, common_steps, statement_seen, assign_seen, invoke_seen, designator_seen)

pub returns-in_err-args : goal.returns-in_err-args
unfolding designated_at assigned_at optional_actuals_at
returns-in_err-args c = grind (arith, common_steps)

pub returns-then-next_is : goal.returns-then-next_is
unfolding designated_at assigned_at optional_actuals_at
returns-then-next_is c = grind (arith, common_steps, statement_seen, assign_seen, invoke_seen, designator_seen)

pub returns : goal.returns
unfolding designated_at assigned_at optional_actuals_at
returns c = grind (arith, common_steps, statement_seen, assign_seen, invoke_seen, designator_seen)
