use Rattle.row_laws.proofs.Units.{unit_results}
use Rattle.row_laws.proofs.laws.results_are_bound.Goals as goal

pub returns : goal.returns
returns c = unit_results
