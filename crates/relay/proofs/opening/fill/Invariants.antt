use Rattle.std.specs.Vec.Iter.{into_iter_items}
use Rattle.crossbeam_queue.specs.Passes.{IsSamePass, view}
use Rattle.relay.specs.Hands.{jobs_of}
use Rattle.relay.proofs.Dealt.{Coming}
use Rattle.relay.proofs.opening.fill.Given as goal

abbrev pub invariant-loop-job : goal.invariant-loop-job
invariant-loop-job g l =
    (goal.iterator-loop-job g).can_next l.job-iterator × (goal.iterator-loop-job g).is_finite l.job-iterator
    × IsSamePass l.initial.pass l.pass × Coming (jobs_of l.relay) (view l.pass) (into_iter_items l.job-iterator)
