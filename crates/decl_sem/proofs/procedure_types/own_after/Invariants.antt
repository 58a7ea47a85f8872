use Rattle.std.proofs.Common.{◌≡◌, ◌+◌, drop}
use Rattle.m2_base.specs.Statics.ProcedureTypes.{formals_length}
use Rattle.decl_sem.proofs.procedure_types.own_after.Given as goal

abbrev pub invariant-loop-formal : goal.invariant-loop-formal
invariant-loop-formal l = l.own + formals_length (drop l.formal-index l.formals) ≡ l.first + formals_length l.formals
