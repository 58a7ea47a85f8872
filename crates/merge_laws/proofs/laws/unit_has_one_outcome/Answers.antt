use Rattle.merge_laws.proofs.Merged.{one_outcome}
use Rattle.merge_laws.proofs.laws.unit_has_one_outcome.Goals as goal

pub returns : goal.returns
returns c = λ texts front these those unit whole this that. one_outcome texts unit front whole these those this that
