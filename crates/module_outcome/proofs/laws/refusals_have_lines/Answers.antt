use Rattle.unit_outcome.proofs.FaultsStand.{refusals_stand}
use Rattle.module_outcome.proofs.laws.refusals_have_lines.Goals as goal

pub returns : goal.returns
returns c = refusals_stand
