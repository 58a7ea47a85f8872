use Rattle.const_eval.proofs.RefusedConstants.{constant-unrefused, designator-unrefused, expression-unrefused}
use Rattle.const_eval.proofs.laws.diagnostics_leave_nothing.Goals as goal

pub returns-clause-expressions : goal.returns-clause-expressions
returns-clause-expressions c = expression-unrefused

pub returns-clause-designators : goal.returns-clause-designators
returns-clause-designators c = designator-unrefused

pub returns-clause-constants : goal.returns-clause-constants
returns-clause-constants c = constant-unrefused
