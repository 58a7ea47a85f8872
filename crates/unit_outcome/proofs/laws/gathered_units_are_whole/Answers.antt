use Rattle.unit_outcome.proofs.Fronts.{gathered_whole}
use Rattle.unit_outcome.proofs.laws.gathered_units_are_whole.Goals as goal

pub returns-clause-fronts : goal.returns-clause-fronts
returns-clause-fronts c = λ texts whole. whole.no_others

pub returns-clause-whole : goal.returns-clause-whole
returns-clause-whole c = λ texts front whole are. gathered_whole texts front whole are
