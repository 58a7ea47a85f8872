use Rattle.row_laws.proofs.SightUnits.{unit_sight}
use Rattle.row_laws.proofs.laws.sight_is_closed.Goals as goal

pub returns : goal.returns
returns c = unit_sight
