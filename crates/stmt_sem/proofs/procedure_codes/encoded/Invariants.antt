use Rattle.stmt_sem.proofs.ProcedureCodes.{HasBytesOf}
use Rattle.stmt_sem.proofs.procedure_codes.encoded.Given as goal

abbrev pub invariant-loop-step : goal.invariant-loop-step
invariant-loop-step l = HasBytesOf l.code.items l.steps l.step-index
