use Rattle.unit_laws.proofs.SpelledTrees.{items_read, statements_read}
use Rattle.unit_laws.proofs.laws.trees_are_read.Goals as goal

pub returns-clause-items : goal.returns-clause-items
returns-clause-items c = items_read

pub returns-clause-statements : goal.returns-clause-statements
returns-clause-statements c = statements_read
