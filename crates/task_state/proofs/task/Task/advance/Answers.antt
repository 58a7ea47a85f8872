use Rattle.m2_base.proofs.Kept.{Turns-trans}
use Rattle.task_state.proofs.task.Task.advance.Goals as goal

pub returns-clause-turns : goal.returns-clause-turns
returns-clause-turns g c = Turns-trans c.read.ensures.turns c.go_on.ensures.turns
