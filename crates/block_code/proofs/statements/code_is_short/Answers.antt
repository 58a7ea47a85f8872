use Rattle.block_code.proofs.StatementLengthLaw.{block-in_range, block-short, statements-short}
use Rattle.block_code.proofs.statements.code_is_short.Goals as goal

pub returns-clause-statements : goal.returns-clause-statements
returns-clause-statements c = statements-short

pub returns-clause-blocks : goal.returns-clause-blocks
returns-clause-blocks c = block-short

pub returns-clause-in_range : goal.returns-clause-in_range
returns-clause-in_range c = block-in_range
