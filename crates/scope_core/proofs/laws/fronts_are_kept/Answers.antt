use Rattle.scope_core.proofs.Fronts.{completed_front, entered_front, searched_front}
use Rattle.scope_core.proofs.laws.fronts_are_kept.Goals as goal

pub returns-clause-searched : goal.returns-clause-searched
returns-clause-searched c = searched_front

pub returns-clause-entered : goal.returns-clause-entered
returns-clause-entered c = entered_front

pub returns-clause-completed : goal.returns-clause-completed
returns-clause-completed c = completed_front
