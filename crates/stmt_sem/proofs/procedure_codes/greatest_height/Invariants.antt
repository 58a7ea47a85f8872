use Rattle.stmt_sem.proofs.ProcedureCodes.{IsHighUpTo}
use Rattle.stmt_sem.proofs.procedure_codes.greatest_height.Given as goal

abbrev pub invariant-loop-step : goal.invariant-loop-step
invariant-loop-step l = IsHighUpTo l.height l.high l.steps l.step-index
