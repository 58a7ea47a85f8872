use Rattle.std.proofs.Common.{ap, sym, subst}
use Rattle.relay.specs.Places.{MayWait}
use Rattle.relay.proofs.KeptRule.{puts, counts}
use Rattle.relay.proofs.Carrying.{still, out_last, returned}
use Rattle.relay.proofs.hand.Relay.put.Goals as goal

pub push_as-requires-clause-rule : goal.push_as-requires-clause-rule
push_as-requires-clause-rule g c =
    let is = c.requires.hand in let number = g.J.Job.number in let done = g.J.Job.done in let stays = g.J.Job.stays in (
      puts number done stays _ _ _ _ is.some_part (out_last number stays _ _ _ _ _ c.requires.held is.carries) (subst (λ js. MayWait number done stays js c.args.job) (sym is.jobs) c.requires.job),
      counts number done stays _ _ is.some_part,
    )

pub returns-clause-hand : goal.returns-clause-hand
returns-clause-hand g c =
    let is = c.requires.hand in let e = c.in-Ok.ensures.rule in
    still g.J.Job.number g.J.Job.stays _ _ _ is c.push_as.ensures.queue (ap (λ u. u.parts) e) (ap (λ u. u.jobs) e)
    (returned g.J.Job.number g.J.Job.stays _ _ _ _ _ _ c.requires.held is.carries e)
