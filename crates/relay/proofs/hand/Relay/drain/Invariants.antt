use Rattle.std.proofs.Common.{◌≡◌, None}
use Rattle.std.specs.Prelude.{vec_capacity}
use Rattle.crossbeam_queue.specs.Passes.{view, IsPassOf}
use Rattle.relay.specs.Places.{Carries}
use Rattle.relay.specs.Hands.{jobs_of}
use Rattle.relay.proofs.hand.Relay.drain.Given as goal

abbrev pub invariant-loop : goal.invariant-loop
invariant-loop g l =
    (goal.iterator-loop g).can_next l.iterator' × IsPassOf l.self.queue l.pass
    × Carries g.J.Job.number g.J.Job.stays (view l.pass) None l.kept.items (vec_capacity l.kept)
    × ((view l.pass).parts ≡ 1024) × ((view l.pass).jobs ≡ jobs_of l.self)
