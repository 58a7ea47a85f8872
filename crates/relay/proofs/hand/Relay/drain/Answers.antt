use Rattle.std.proofs.Common.{◌∙◌, ◌<◌, ap, subst, arith, length, All, rules}
use Rattle.std.specs.Prelude.{vec_capacity}
use Rattle.crossbeam_queue.specs.Passes.{view}
use Rattle.relay.specs.Places.{ComesFrom}
use Rattle.relay.proofs.KeptRule.{takes, tells}
use Rattle.relay.proofs.Carrying.{drained, emptied, free, listed}
use Rattle.relay.proofs.hand.Relay.drain.Goals as goal

pub pop_as-requires-clause-rule : goal.pop_as-requires-clause-rule
pop_as-requires-clause-rule g c =
    let p = c.loop.invariant.3 in let some : 0 < (view c.loop.pass).parts = omega arith in
    (takes g.J.Job.number g.J.Job.done g.J.Job.stays _ _ some, tells g.J.Job.number g.J.Job.done g.J.Job.stays _ _ some)

pub push_reserved-requires : goal.push_reserved-requires
push_reserved-requires g c =
    let d = drained g.J.Job.number g.J.Job.stays g.J.Job.done _ _ _ _ c.in-Some-pop_as.job c.loop.invariant.2 c.in-Some-pop_as.ensures.rule in
    let room : length c.loop.kept.items < vec_capacity c.loop.kept = d.0 in search rules

pub loop-preserved : goal.loop-preserved
loop-preserved g c =
    let inv = c.loop.invariant in let t = c.in-Some-pop_as.ensures.rule in
    let d = drained g.J.Job.number g.J.Job.stays g.J.Job.done _ _ _ _ c.in-Some-pop_as.job inv.2 t in (
      tt,
      (c.pop_as.ensures.queue.0 ∙ inv.1.0, c.pop_as.ensures.queue.2 ∙ inv.1.1),
      listed g.J.Job.number g.J.Job.stays _ _ _ _ _ _ c.push_reserved.ensures.items c.push_reserved.ensures.capacity d.1,
      ap (λ u. u.parts) t.view ∙ inv.3,
      ap (λ u. u.jobs) t.view ∙ inv.4,
    )

pub returns-in-None-pop_as-clause-once : goal.returns-in-None-pop_as-clause-once
returns-in-None-pop_as-clause-once g c =
    let inv = c.loop.invariant in emptied g.J.Job.number g.J.Job.stays (view c.loop.pass) c.loop.kept.items _ _ inv.2 inv.3 inv.4 c.in-None-pop_as.ensures.rule.1

pub returns-in-None-pop_as-clause-jobs : goal.returns-in-None-pop_as-clause-jobs
returns-in-None-pop_as-clause-jobs g c =
    let inv = c.loop.invariant in subst (λ js. All (ComesFrom g.J.Job.stays js) c.loop.kept.items) inv.4 inv.2.of

pub loop-init : goal.loop-init
loop-init g c =
    let is = c.requires.hand.0 in
    (tt, is.pass, free g.J.Job.number g.J.Job.stays _ _ _ _ c.requires.hand.1 is.carries, c.requires.whole, is.jobs)

pub loop-smaller : goal.loop-smaller
loop-smaller g c = (c.in-Some.ensures.goes.on tt).2
