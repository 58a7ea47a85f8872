use Rattle.block_laws.proofs.WholeRows.{rows-whole}
use Rattle.block_laws.proofs.laws.rows_are_whole.Goals as goal

pub returns : goal.returns
returns c = rows-whole
