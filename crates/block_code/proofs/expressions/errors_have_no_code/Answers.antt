use Rattle.block_code.proofs.Law.{designator-clean, expression-clean, value-clean}
use Rattle.block_code.proofs.expressions.errors_have_no_code.Goals as goal

pub returns-clause-expressions : goal.returns-clause-expressions
returns-clause-expressions c = expression-clean

pub returns-clause-values : goal.returns-clause-values
returns-clause-values c = value-clean

pub returns-clause-designators : goal.returns-clause-designators
returns-clause-designators c = designator-clean
