use Rattle.std.proofs.Common.{◌≡◌, ◌+◌, ◌-◌, ◌≤◌, [], All, sum_by}
use Rattle.std.specs.Prelude.{vec_len, vec_capacity}
use Rattle.crossbeam_queue.specs.Passes.{view, IsPassOf}
use Rattle.relay.specs.Places.{knows}
use Rattle.relay.specs.Hands.{jobs_of, many, part, IsHandOf, IsEmpty}
use Rattle.relay.proofs.opening.deal.Given as goal

abbrev pub invariant-loop-made : goal.invariant-loop-made
invariant-loop-made g l =
    (1 ≤ l.made) × (l.made ≤ l.hands) × (many l.relay ≤ l.room) × IsPassOf l.relay.queue l.pass
    × (view l.pass ≡ knows (1025 - l.made) (jobs_of l.relay) [])
    × All (IsHandOf g.J.Job.number g.J.Job.stays l.relay) l.all.items × All IsEmpty l.all.items
    × (sum_by part l.all.items + 1 ≡ l.made) × (vec_len l.all + 1 ≡ l.made) × (l.hands ≤ vec_capacity l.all)
