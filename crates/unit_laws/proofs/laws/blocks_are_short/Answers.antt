use Rattle.unit_laws.proofs.ShortBlocks.{blocks_short}
use Rattle.unit_laws.proofs.laws.blocks_are_short.Goals as goal

pub returns : goal.returns
returns c = blocks_short
