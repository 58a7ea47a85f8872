use Rattle.row_laws.proofs.Units.{unit_declared}
use Rattle.row_laws.proofs.laws.procedures_are_declared.Goals as goal

pub returns : goal.returns
returns c = unit_declared
