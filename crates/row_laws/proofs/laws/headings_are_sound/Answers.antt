use Rattle.row_laws.proofs.ClearUnits.{unit_headings}
use Rattle.row_laws.proofs.laws.headings_are_sound.Goals as goal

pub returns : goal.returns
returns c = unit_headings
