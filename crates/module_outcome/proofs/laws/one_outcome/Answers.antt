use Rattle.module_outcome.proofs.OneOutcome.{one_compiled}
use Rattle.module_outcome.proofs.laws.one_outcome.Goals as goal

pub returns : goal.returns
returns c = one_compiled c.given_files_have_one_outcome.ensures.from_files c.whole_units_have_one_outcome.ensures
