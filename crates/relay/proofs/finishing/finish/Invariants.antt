use Rattle.relay.specs.Hands.{AreLater}
use Rattle.relay.specs.Ends.{AreOver}
use Rattle.relay.proofs.finishing.finish.Given as goal

-- the jobs before this place are done
abbrev pub invariant-loop-place : goal.invariant-loop-place
invariant-loop-place g l = AreLater g.J.Job.stays l.fn.jobs l.jobs × AreOver (g.T.Turns.ready l.turns) g.J.Job.done l.place l.jobs
