use Rattle.m2_base.proofs.TypeLaws.{same-symmetric, same-transitive}
use Rattle.m2_base.proofs.static_laws.same_is_an_equivalence.Goals as goal

pub returns-clause-symmetric : goal.returns-clause-symmetric
returns-clause-symmetric c = same-symmetric

pub returns-clause-transitive : goal.returns-clause-transitive
returns-clause-transitive c = same-transitive
