use Rattle.block_laws.proofs.MainBlocks.{blocks-see, main-blocks}
use Rattle.block_laws.proofs.laws.main_blocks_are_coded.Goals as goal

pub returns-clause-coded : goal.returns-clause-coded
returns-clause-coded c = main-blocks

pub returns-clause-sight : goal.returns-clause-sight
returns-clause-sight c = blocks-see
