use Rattle.std.proofs.Common.{rules}
use Rattle.std.proofs.lemmas.List.Sorted.{IsNonDecreasingBy-from_sort_by_key}
use Rattle.relay.proofs.closing.by_number.Goals as goal

pub returns-clause-rises : goal.returns-clause-rises
returns-clause-rises g c = IsNonDecreasingBy-from_sort_by_key g.J.Job.number _ c.sort_unstable_by_key.ensures.sorted (λ a r q k. search rules)
