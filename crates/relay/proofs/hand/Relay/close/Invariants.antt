use Rattle.std.proofs.Common.{◌≡◌, ◌+◌, All, sum_by}
use Rattle.std.specs.Vec.Iter.{into_iter_items}
use Rattle.relay.specs.Hands.{part, Rests}
use Rattle.relay.proofs.hand.Relay.close.Given as goal

abbrev pub invariant-loop-hand : goal.invariant-loop-hand
invariant-loop-hand g l =
    (goal.iterator-loop-hand g).can_next l.hand-iterator × (goal.iterator-loop-hand g).is_finite l.hand-iterator
    × Rests g.J.Job.number g.J.Job.stays l.self l.whole × All (Rests g.J.Job.number g.J.Job.stays l.self) (into_iter_items l.hand-iterator)
    × (part l.whole + sum_by part (into_iter_items l.hand-iterator) ≡ 1024)
