use Rattle.row_laws.proofs.ClearUnits.{unit_clear}
use Rattle.row_laws.proofs.laws.rows_are_clear.Goals as goal

pub returns : goal.returns
returns c = unit_clear
