use Rattle.std.proofs.Common.{◌∙◌}
use Rattle.relay.proofs.KeptRule.{begins}
use Rattle.m2_base.proofs.Without.{if_ok_of_err}
use Rattle.relay.proofs.hand.Relay.open.Goals as goal

pub ruled-requires-clause-rule : goal.ruled-requires-clause-rule
ruled-requires-clause-rule g c = begins g.J.Job.number g.J.Job.done g.J.Job.stays

pub fill-requires-clause-pass : goal.fill-requires-clause-pass
fill-requires-clause-pass g c = (c.in_ok-queue.ensures.1, c.in_ok-queue.ensures.3)

pub fill-requires-clause-jobs : goal.fill-requires-clause-jobs
fill-requires-clause-jobs g c = λ i. (c.of.ensures i).items

pub deal-requires-clause-pass : goal.deal-requires-clause-pass
deal-requires-clause-pass g c =
    let same = c.fill.ensures.pass in let is = c.in_ok-queue.ensures.1 in ((same.0 ∙ is.0, same.2 ∙ is.1), c.fill.ensures.view)

pub returns-clause-jobs : goal.returns-clause-jobs
returns-clause-jobs g c = λ i. (c.of.ensures i).items

pub returns-clause-hands : goal.returns-clause-hands
returns-clause-hands g c = c.in_ok-hands.ensures

pub returns-in_err-hands-clause-hands : goal.returns-in_err-hands-clause-hands
returns-in_err-hands-clause-hands g c = if_ok_of_err _ c.from_residual-in_err-hands.result c.from_residual-in_err-hands.ensures.0

pub returns-in_err-hands-clause-jobs : goal.returns-in_err-hands-clause-jobs
returns-in_err-hands-clause-jobs g c = if_ok_of_err _ c.from_residual-in_err-hands.result c.from_residual-in_err-hands.ensures.0
