use Rattle.std.proofs.Common.{◌≡◌}
use Rattle.relay.specs.Hands.{kept, part, Rests, KeepsDone}
use Rattle.relay.proofs.working.work_off.Given as goal

abbrev pub invariant-loop : goal.invariant-loop
invariant-loop g l =
    (goal.iterator-loop g).can_next l.iterator' × Rests g.J.Job.number g.J.Job.stays l.relay l.hand × (part l.hand ≡ part l.initial.hand)
    × KeepsDone g.J.Job.done (kept l.initial.hand) (kept l.hand)
