use Rattle.block_code.proofs.Law.{law, variable-law}
use Rattle.block_code.proofs.Proper.{call_alone-proper}
use Rattle.block_code.proofs.expressions.heights_are_right.Goals as goal

pub returns-clause-values : goal.returns-clause-values
returns-clause-values c = law

pub returns-clause-variables : goal.returns-clause-variables
returns-clause-variables c = variable-law

pub returns-clause-calls : goal.returns-clause-calls
returns-clause-calls c = call_alone-proper
