use Rattle.m2_base.specs.Statics.BlockLimits.{too_deep_procedure, too_many_procedures}
use Rattle.module_outcome.specs.Decisions.{passes_procedures}
use Rattle.compile_command.proofs.judging.judge_unit.Goals as goal

pub returns-in-Err-TooManyStreams-clause-decides : goal.returns-in-Err-TooManyStreams-clause-decides
returns-in-Err-TooManyStreams-clause-decides g c =
    let h = rw c.in-Err-TooManyStreams.field-0-is at c.in-Err-TooManyStreams.ensures.limits in
    passes_procedures (too_many_procedures h.0) h.1

pub returns-in-Err-TooNested-clause-decides : goal.returns-in-Err-TooNested-clause-decides
returns-in-Err-TooNested-clause-decides g c =
    let h = rw c.in-Err-TooNested.field-0-is at c.in-Err-TooNested.ensures.limits in
    passes_procedures (too_deep_procedure h.0) h.1
