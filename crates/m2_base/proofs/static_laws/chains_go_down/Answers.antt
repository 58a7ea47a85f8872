use Rattle.m2_base.proofs.ChainLaws.{chains_down}
use Rattle.m2_base.proofs.static_laws.chains_go_down.Goals as goal

pub returns : goal.returns
returns c = chains_down
