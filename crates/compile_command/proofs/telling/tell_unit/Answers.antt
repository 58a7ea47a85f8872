use Rattle.m2_base.specs.Statics.BlockLimits.{too_deep_procedure, too_many_procedures}
use Rattle.module_outcome.specs.Decisions.{passes_procedures}
use Rattle.module_outcome.specs.declared.limit.Limit.TheVariants.{Procedures, StaticLevel}
use Rattle.module_outcome.proofs.Tellings.{tells_limit}
use Rattle.compile_command.proofs.telling.tell_unit.Goals as goal

pub returns-in-Err-TooManyStreams-clause-tells : goal.returns-in-Err-TooManyStreams-clause-tells
returns-in-Err-TooManyStreams-clause-tells g c =
    let h = rw c.in-Err-TooManyStreams.field-0-is at c.in-Err-TooManyStreams.ensures.limits in
    tells_limit c.args.texts.now Procedures (passes_procedures (too_many_procedures h.0) h.1)

pub returns-in-Err-TooNested-clause-tells : goal.returns-in-Err-TooNested-clause-tells
returns-in-Err-TooNested-clause-tells g c =
    let h = rw c.in-Err-TooNested.field-0-is at c.in-Err-TooNested.ensures.limits in
    tells_limit c.args.texts.now StaticLevel (passes_procedures (too_deep_procedure h.0) h.1)
