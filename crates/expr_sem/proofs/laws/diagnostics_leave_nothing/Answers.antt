use Rattle.expr_sem.proofs.RefusedLaw.{call-unrefused, designator-unrefused, expression-unrefused, value-unrefused}
use Rattle.expr_sem.proofs.laws.diagnostics_leave_nothing.Goals as goal

pub returns-clause-expressions : goal.returns-clause-expressions
returns-clause-expressions c = expression-unrefused

pub returns-clause-values : goal.returns-clause-values
returns-clause-values c = value-unrefused

pub returns-clause-designators : goal.returns-clause-designators
returns-clause-designators c = designator-unrefused

pub returns-clause-calls : goal.returns-clause-calls
returns-clause-calls c = call-unrefused
