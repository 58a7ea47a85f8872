use Rattle.scope_core.proofs.Fronts.{started_empty, started_front, started_open}
use Rattle.scope_core.proofs.laws.nothing_is_entered.Goals as goal

pub returns-clause-entered : goal.returns-clause-entered
returns-clause-entered c = started_empty

pub returns-clause-closed : goal.returns-clause-closed
returns-clause-closed c = started_open

pub returns-clause-front : goal.returns-clause-front
returns-clause-front c = started_front
