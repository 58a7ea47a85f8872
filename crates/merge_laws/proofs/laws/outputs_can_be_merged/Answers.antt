use Rattle.merge_laws.proofs.Merged.{mergeable}
use Rattle.merge_laws.proofs.laws.outputs_can_be_merged.Goals as goal

pub returns : goal.returns
returns c = λ texts front outputs unit whole are. mergeable texts unit front whole outputs are
