use Rattle.std.proofs.Common.{arith}
use Rattle.relay.proofs.KeptRule.{comes, counts_waiting}
use Rattle.relay.proofs.hand.Relay.bear.Goals as goal

pub push_as-requires-clause-rule : goal.push_as-requires-clause-rule
push_as-requires-clause-rule g c =
    let all = c.requires.pass.1 in let number = g.J.Job.number in let done = g.J.Job.done in let stays = g.J.Job.stays in (
      comes number done stays _ _ _ _ all c.requires.next (g.met.J.Job.stays_as_it_is c.args.job) c.requires.undone,
      counts_waiting number done stays _ _ (omega arith),
    )
