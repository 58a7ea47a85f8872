use Rattle.block_code.proofs.LengthLaw.{call-short, designator-short, value-short}
use Rattle.block_code.proofs.expressions.code_is_short.Goals as goal

pub returns-clause-values : goal.returns-clause-values
returns-clause-values c = value-short

pub returns-clause-variables : goal.returns-clause-variables
returns-clause-variables c = designator-short

pub returns-clause-calls : goal.returns-clause-calls
returns-clause-calls c = call-short
