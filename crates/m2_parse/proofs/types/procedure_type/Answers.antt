use Rattle.std.proofs.Common.{arith}
use Rattle.std.proofs.lemmas.Grind.{common_steps}
use Rattle.m2_base.proofs.Seen.{type_seen}
use Rattle.m2_parse.specs.ReadTypes.{proc_type_at}
use Rattle.m2_parse.proofs.Steps.{fails, fails_behind, handed_on}
use Rattle.m2_parse.proofs.types.procedure_type.Goals as goal

pub returns-in_err-procedure : goal.returns-in_err-procedure
unfolding proc_type_at
returns-in_err-procedure c =
    handed_on _ _ _ c.from_residual.result c.from_residual.ensures.1
    (fails _ _ _ c.in_err-procedure.ensures.gives)

pub returns-in_err-form : goal.returns-in_err-form
unfolding proc_type_at
returns-in_err-form c =
    handed_on _ _ _ c.from_residual-in_err-form.result c.from_residual-in_err-form.ensures.1
    (fails_behind _ _ _ c.in_ok-procedure.ensures.gives (fails _ _ _ c.in_err-form.ensures))

pub returns : goal.returns
unfolding proc_type_at
returns c = grind (arith, common_steps, type_seen)
