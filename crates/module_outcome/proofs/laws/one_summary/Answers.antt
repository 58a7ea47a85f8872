use Rattle.module_outcome.proofs.OneSummary.{one_summarized}
use Rattle.module_outcome.proofs.laws.one_summary.Goals as goal

pub returns : goal.returns
returns c = one_summarized c.given_files_have_one_outcome.ensures.of_text c.whole_units_have_one_outcome.ensures
