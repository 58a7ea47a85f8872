use Rattle.std.proofs.Common.{arith}
use Rattle.module_gen.specs.BigModule.{procedure_text}
use Rattle.module_gen.proofs.Growing.{grown, whole}
use Rattle.module_gen.proofs.big_module.push_procedures.Goals as goal

pub loop-number-preserved : goal.loop-number-preserved
loop-number-preserved c =
    let was = c.loop-number.invariant in
    (omega arith, grown procedure_text _ _ _ c.loop-number.number was.0 was.1 c.in_ok-push_procedure.ensures)

pub returns : goal.returns
returns c = whole procedure_text _ _ c.loop-number.number _ (omega arith) c.loop-number.invariant.1
