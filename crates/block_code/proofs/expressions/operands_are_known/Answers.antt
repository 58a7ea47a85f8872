use Rattle.block_code.proofs.Law.{designator-known, expression-known}
use Rattle.block_code.proofs.expressions.operands_are_known.Goals as goal

pub returns-clause-expressions : goal.returns-clause-expressions
returns-clause-expressions c = expression-known

pub returns-clause-designators : goal.returns-clause-designators
returns-clause-designators c = designator-known
