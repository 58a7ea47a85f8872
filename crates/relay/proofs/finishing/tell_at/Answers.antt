use Rattle.std.proofs.Common.{◌≡◌, ◌<◌, arith, get_or, length, subst, sym}
use Rattle.relay.proofs.Dealt.{number-at}
use Rattle.relay.proofs.Ended.{told_later, told_over, told_ready, next_number}
use Rattle.relay.proofs.finishing.tell_at.Goals as goal

pub tell-requires-clause-next : goal.tell-requires-clause-next
tell-requires-clause-next g c =
    let s = c.split_at_mut-front.ensures in
    next_number g.J.Job.number _ _ _ _ _ _ c.requires.order s.value s.front_len c.if-place-gt0.true c.requires.there

pub returns-then-place-gt0-clause-later : goal.returns-then-place-gt0-clause-later
returns-then-place-gt0-clause-later g c =
    let s = c.split_at_mut-front.ensures in
    told_later g.J.Job.stays g.met.J.Job.stays_as_it_is g.met.J.Job.stays_on _ _ _ _ _ _ _ _ s.value s.front_len c.if-place-gt0.true c.requires.there
    c.tell.ensures.before.0 c.tell.ensures.job.0

pub returns-then-place-gt0-clause-before : goal.returns-then-place-gt0-clause-before
returns-then-place-gt0-clause-before g c =
    let s = c.split_at_mut-front.ensures in
    told_over g.J.Job.stays (g.T.Turns.ready c.args.turns.now) g.J.Job.done (g.met.T.Turns.ready_on c.args.turns.now) _ _ _ _ _ _ _
    s.value s.front_len c.if-place-gt0.true c.requires.there c.tell.ensures.before.0 c.tell.ensures.before.1 c.requires.before

pub returns-then-place-gt0-clause-ready : goal.returns-then-place-gt0-clause-ready
returns-then-place-gt0-clause-ready g c d =
    let s = c.split_at_mut-front.ensures in
    told_ready (g.T.Turns.ready c.args.turns.now) _ _ _ _ _ _ d s.value s.front_len c.if-place-gt0.true c.requires.there c.tell.ensures.ready

pub returns-else-place-gt0-clause-ready : goal.returns-else-place-gt0-clause-ready
returns-else-place-gt0-clause-ready g c d =
    let zero : c.args.place ≡ 0 = omega arith in let jobs = c.args.jobs.now in
    let there : 0 < length jobs = omega arith in
    subst (λ p. g.T.Turns.ready c.args.turns.now (get_or jobs p d)) (sym zero)
    (g.met.T.Turns.first_ready c.args.turns.now _ (c.requires.fits 0 d there) (number-at g.J.Job.number jobs 0 d c.requires.order there))
