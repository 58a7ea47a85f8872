use Rattle.merge_laws.proofs.Merged.{valid}
use Rattle.merge_laws.proofs.laws.unit_objects_are_valid.Goals as goal

pub returns : goal.returns
returns c = λ texts u front unit whole read none numbers heights. valid texts unit front whole u read none numbers heights
