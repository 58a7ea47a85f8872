use Rattle.block_laws.proofs.Lone.{lone-valid}
use Rattle.block_laws.proofs.Units.{units-valid}
use Rattle.block_laws.proofs.laws.lone_code_is_valid.Goals as goal

pub returns : goal.returns
returns c = record { blocks = lone-valid; units = units-valid }
