use Rattle.row_laws.proofs.DefinitionUnits.{unit_noted}
use Rattle.row_laws.proofs.laws.definitions_are_as_noted.Goals as goal

pub returns : goal.returns
returns c = unit_noted
