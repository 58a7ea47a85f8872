use Rattle.std.proofs.Common.{Some, ap, subst, sym}
use Rattle.std.specs.Prelude.{vec_capacity}
use Rattle.relay.specs.Places.{Carries, MayWait}
use Rattle.relay.specs.Hands.{held, kept}
use Rattle.relay.proofs.KeptRule.{takes, tells}
use Rattle.relay.proofs.Carrying.{spread_out, still, took}
use Rattle.m2_base.proofs.Without.{if_none_anyway}
use Rattle.relay.proofs.hand.Relay.take.Goals as goal

pub pop_as-requires-clause-rule : goal.pop_as-requires-clause-rule
pop_as-requires-clause-rule g c =
    let some = c.requires.hand.some_part in
    (takes g.J.Job.number g.J.Job.done g.J.Job.stays _ _ some, tells g.J.Job.number g.J.Job.done g.J.Job.stays _ _ some)

pub returns-clause-hand : goal.returns-clause-hand
returns-clause-hand g c =
    let is = c.requires.hand in let t = c.in_ok-job.ensures.rule in
    still g.J.Job.number g.J.Job.stays _ _ _ is c.pop_as.ensures.queue (ap (λ u. u.parts) t.view) (ap (λ u. u.jobs) t.view)
    (took g.J.Job.number g.J.Job.stays g.J.Job.done _ _ _ _ _ _ _ c.requires.free c.number.ensures is.carries t)

pub returns-clause-some : goal.returns-clause-some
returns-clause-some g c =
    let t = c.in_ok-job.ensures.rule in
    ((λ i. Some (c.number.ensures i)), subst (λ js. MayWait g.J.Job.number g.J.Job.done g.J.Job.stays js c.in_ok-job.job) c.requires.hand.jobs t.wait)

pub returns-in_err-job-clause-hand : goal.returns-in_err-job-clause-hand
returns-in_err-job-clause-hand g c =
    let number = g.J.Job.number in let stays = g.J.Job.stays in let is = c.requires.hand in let e = c.in_err-job.ensures.rule.0 in
    still number stays _ _ _ is c.pop_as.ensures.queue (ap (λ u. u.parts) e) (ap (λ u. u.jobs) e)
    (subst (λ v. Carries number stays v (held c.args.hand.now) (kept c.args.hand.now) (vec_capacity c.args.hand.now.kept)) (sym e) is.carries)

pub returns-in_err-job-clause-none : goal.returns-in_err-job-clause-none
returns-in_err-job-clause-none g c =
    let is = c.requires.hand in
    if_none_anyway c.from_residual.result
    (c.requires.free, spread_out g.J.Job.number g.J.Job.stays _ _ _ _ _ c.requires.free is.carries is.jobs c.in_err-job.ensures.rule.1)
