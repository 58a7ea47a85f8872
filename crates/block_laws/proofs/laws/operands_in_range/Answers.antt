use Rattle.block_laws.proofs.InRange.{block-in_range}
use Rattle.block_laws.proofs.Units.{units-in_range}
use Rattle.block_laws.proofs.laws.operands_in_range.Goals as goal

pub returns : goal.returns
returns c = record { blocks = block-in_range; units = units-in_range }
