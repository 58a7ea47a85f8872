use Rattle.m2c_top.proofs.OneOutcome.{one_outcome_lem}
use Rattle.m2c_top.proofs.laws.one_outcome.Goals as goal

pub returns : goal.returns
returns c = one_outcome_lem c.one_outcome.ensures c.one_summary.ensures
