use Rattle.object_file.proofs.Building.{valid_by_parts}
use Rattle.object_file.proofs.laws.parts_are_valid.Goals as goal

pub returns : goal.returns
returns c = valid_by_parts
