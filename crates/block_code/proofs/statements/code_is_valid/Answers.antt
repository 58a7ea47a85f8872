use Rattle.block_code.proofs.ValidBlocks.{block-valid}
use Rattle.block_code.proofs.statements.code_is_valid.Goals as goal

pub returns : goal.returns
returns c = record { blocks = block-valid }
