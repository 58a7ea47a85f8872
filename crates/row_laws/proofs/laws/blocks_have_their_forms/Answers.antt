use Rattle.row_laws.proofs.TextBlocks.{blocks_read, trees_read}
use Rattle.row_laws.proofs.laws.blocks_have_their_forms.Goals as goal

pub returns-clause-blocks : goal.returns-clause-blocks
returns-clause-blocks c = blocks_read

pub returns-clause-trees : goal.returns-clause-trees
returns-clause-trees c = trees_read
