use Rattle.std.proofs.Common.{arith}
use Rattle.relay.proofs.Ended.{later_same, later_on, later_order, later_all}
use Rattle.relay.proofs.finishing.finish.Goals as goal

pub loop-place-init : goal.loop-place-init
loop-place-init g c = (later_same g.J.Job.stays g.met.J.Job.stays_as_it_is g.met.J.Job.stays_on _, record { are_ready = λ k d l. absurd (omega arith); are_done = λ k d l. absurd (omega arith) })

pub end_at-requires-clause-order : goal.end_at-requires-clause-order
end_at-requires-clause-order g c = later_order g.J.Job.stays g.J.Job.number g.met.J.Job.number_stays _ _ c.loop-place.invariant.0 c.requires.order

pub end_at-requires-clause-fits : goal.end_at-requires-clause-fits
end_at-requires-clause-fits g c = later_all g.J.Job.stays (g.T.Turns.fits c.args.turns.now) (g.met.T.Turns.fits_on c.args.turns.now) _ _ c.loop-place.invariant.0 c.requires.fits

pub loop-place-preserved : goal.loop-place-preserved
loop-place-preserved g c =
    (later_on g.J.Job.stays g.met.J.Job.stays_as_it_is g.met.J.Job.stays_on _ _ _ c.loop-place.invariant.0 c.end_at.ensures.later, c.in_ok-end_at.ensures.over)
