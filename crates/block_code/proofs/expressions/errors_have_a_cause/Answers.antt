use Rattle.block_code.proofs.Causes.{call-refused, designator-refused, expression-refused, value-refused}
use Rattle.block_code.proofs.expressions.errors_have_a_cause.Goals as goal

pub returns-clause-expressions : goal.returns-clause-expressions
returns-clause-expressions c = expression-refused

pub returns-clause-values : goal.returns-clause-values
returns-clause-values c = value-refused

pub returns-clause-designators : goal.returns-clause-designators
returns-clause-designators c = designator-refused

pub returns-clause-calls : goal.returns-clause-calls
returns-clause-calls c = call-refused
