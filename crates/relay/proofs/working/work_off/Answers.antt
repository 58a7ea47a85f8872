use Rattle.std.proofs.Common.{◌∙◌, Some, refl, subst, sym}
use Rattle.relay.specs.Hands.{jobs_of, kept, KeepsDone}
use Rattle.relay.proofs.Worked.{none_more, more_and_more, holds_on, comes_on}
use Rattle.relay.proofs.working.work_off.Goals as goal

pub loop-init : goal.loop-init
loop-init g c = (tt, c.requires.hand, refl, none_more g.J.Job.done (kept c.args.hand.now))

pub loop-preserved-in-Further : goal.loop-preserved-in-Further
loop-preserved-in-Further g c =
    let was = c.loop.invariant in
    let more = subst (λ before. KeepsDone g.J.Job.done before (kept c.give_back.new.hand)) c.take.ensures.kept c.give_back.ensures.kept in
    (tt, c.give_back.ensures.hand, c.give_back.ensures.part ∙ c.take.ensures.hand.1 ∙ was.2, more_and_more g.J.Job.done _ _ _ was.3 more)

pub loop-preserved : goal.loop-preserved
loop-preserved g c =
    let was = c.loop.invariant in
    let more = subst (λ before. KeepsDone g.J.Job.done before (kept c.give_back.new.hand)) c.take.ensures.kept c.give_back.ensures.kept in
    (tt, c.give_back.ensures.hand, c.give_back.ensures.part ∙ c.take.ensures.hand.1 ∙ was.2, more_and_more g.J.Job.done _ _ _ was.3 more)

pub returns-in-NoMemory-clause-kept : goal.returns-in-NoMemory-clause-kept
returns-in-NoMemory-clause-kept g c =
    let more = subst (λ before. KeepsDone g.J.Job.done before (kept c.give_back.new.hand)) c.take.ensures.kept c.give_back.ensures.kept in
    more_and_more g.J.Job.done _ _ _ c.loop.invariant.3 more

pub loop-smaller : goal.loop-smaller
loop-smaller g c = (c.in-Some.ensures.goes.on tt).2

pub turn-turned-requires-clause-fits : goal.turn-turned-requires-clause-fits
turn-turned-requires-clause-fits g c =
    holds_on g.J.Job.stays (g.T.Turns.fits c.args.turns.now) (jobs_of c.args.relay.now) c.in-Some-take.job (g.met.T.Turns.fits_on c.args.turns.now)
    c.requires.fits c.in-Some-take.ensures.some.1.0

pub give_back-requires-clause-held : goal.give_back-requires-clause-held
give_back-requires-clause-held g c =
    c.in-Some-take.ensures.some.0 ∙ (λ i. Some (sym (g.met.J.Job.number_stays _ _ c.turn-turned.ensures.later) i))

pub give_back-requires-clause-job : goal.give_back-requires-clause-job
give_back-requires-clause-job g c =
    comes_on g.J.Job.stays (jobs_of c.args.relay.now) _ _ g.met.J.Job.stays_on c.in-Some-take.ensures.some.1.0 c.turn-turned.ensures.later

pub returns-in_default-clause-hand : goal.returns-in_default-clause-hand
returns-in_default-clause-hand g c = (c.take.ensures.hand.0, c.in_default.ensures.none.0)

pub returns-in_default-clause-kept : goal.returns-in_default-clause-kept
returns-in_default-clause-kept g c =
    subst (λ after. KeepsDone g.J.Job.done (kept c.args.hand.now) after) (sym c.take.ensures.kept) c.loop.invariant.3
