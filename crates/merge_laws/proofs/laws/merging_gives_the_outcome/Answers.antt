use Rattle.merge_laws.proofs.Merged.{gives}
use Rattle.merge_laws.proofs.laws.merging_gives_the_outcome.Goals as goal

pub returns : goal.returns
returns c = λ texts front outputs outcome unit whole are merged. gives texts unit front whole outputs are outcome merged
