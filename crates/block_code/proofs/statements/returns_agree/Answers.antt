use Rattle.block_code.proofs.ReturnTakings.{returns-agree}
use Rattle.block_code.proofs.statements.returns_agree.Goals as goal

pub returns : goal.returns
returns c = record { blocks = returns-agree }
