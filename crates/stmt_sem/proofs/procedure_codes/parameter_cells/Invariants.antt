use Rattle.stmt_sem.proofs.ProcedureCodes.{HasCellsOf}
use Rattle.stmt_sem.proofs.procedure_codes.parameter_cells.Given as goal

abbrev pub invariant-loop-section : goal.invariant-loop-section
invariant-loop-section l = HasCellsOf l.cells l.sections l.section-index
