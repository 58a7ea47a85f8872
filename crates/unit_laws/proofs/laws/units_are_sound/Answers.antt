use Rattle.unit_laws.proofs.SoundUnits.{unit_sound}
use Rattle.unit_laws.proofs.laws.units_are_sound.Goals as goal

pub returns : goal.returns
returns c = unit_sound
