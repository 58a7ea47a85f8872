use denote.Param.Send.{sendable}
use Rattle.std.proofs.Common.{rules}
use Rattle.relay.proofs.Crossing.{relay-sync}
use Rattle.relay.proofs.Worked.{all_went_on}
use Rattle.relay.proofs.at_once.work_all.Goals as goal

pub for_each_mut-requires-sync-F : goal.for_each_mut-requires-sync-F
for_each_mut-requires-sync-F g c κs within = search (sendable, relay-sync) depth 40

pub returns-clause-all : goal.returns-clause-all
returns-clause-all g c = all_went_on g.J.Job.number g.J.Job.stays c.args.relay.now _ _ c.for_each_mut.auto.s
    (λ k d l. let h = (c.for_each_mut.ensures k d l).1 in search rules) c.requires.all
