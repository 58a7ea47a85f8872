use Rattle.std.proofs.Common.{◌≡◌, ◌++◌, ◌+◌, ◌≤◌}
use Rattle.std.specs.Prelude.{vec_len, vec_capacity}
use Rattle.std.specs.Vec.Iter.{into_iter_items, into_iter_len}
use Rattle.relay.proofs.closing.push_all.Given as goal

abbrev pub invariant-loop-job : goal.invariant-loop-job
invariant-loop-job g l =
    (goal.iterator-loop-job g).can_next l.job-iterator × (goal.iterator-loop-job g).is_finite l.job-iterator
    × (l.to.items ++ into_iter_items l.job-iterator ≡ l.initial.to.items ++ into_iter_items l.initial.job-iterator)
    × (vec_capacity l.to ≡ vec_capacity l.initial.to) × (vec_len l.to + into_iter_len l.job-iterator ≤ vec_capacity l.to)
