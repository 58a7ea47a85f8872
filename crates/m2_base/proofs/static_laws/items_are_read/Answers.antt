use Rattle.m2_base.proofs.ReadTrees.{items_are_read}
use Rattle.m2_base.proofs.ReadSound.{item_sound}
use Rattle.m2_base.proofs.static_laws.items_are_read.Goals as goal

pub returns-clause-read : goal.returns-clause-read
returns-clause-read c = items_are_read

pub returns-clause-sound : goal.returns-clause-sound
returns-clause-sound c = item_sound
