use Rattle.m2_base.proofs.SoundBlocks.{block_right}
use Rattle.m2_base.proofs.SoundUnits.{unit_right}
use Rattle.m2_base.proofs.static_laws.rows_are_right.Goals as goal

pub returns-clause-blocks : goal.returns-clause-blocks
returns-clause-blocks c = block_right

pub returns-clause-units : goal.returns-clause-units
returns-clause-units c = unit_right
