-- Judgements: what an operator or a standard function gives of its operands, or what is wrong there.
use Rattle.std.specs.Prelude.{Result, Ok, Err}
use Rattle.m2_base.specs.Diagnostics.{code_of}
use Rattle.m2_base.specs.Gives.{Gives, gives}
use Rattle.m2_base.specs.Statics.Contexts.{Context, refuse}
use Rattle.m2_base.specs.declared.operands.Operand.{Operand}
use Rattle.m2_base.specs.declared.operands.Operand.TheVariants.{InError}
use Rattle.const_eval.specs.declared.faults.Fault.{Fault}

-- what a judgement gives: its value, or a diagnostic at a token with what then stands for the value
abbrev pub judged_or : {T : Type 0} → Context → T → Result T Fault → Gives T
judged_or c instead (Ok v) = gives v
judged_or c instead (Err f) = refuse c f.at (code_of f.kind) instead

-- what a judgement on operands gives: where something is wrong, the operand is in error
abbrev pub judged : Context → Result Operand Fault → Gives Operand
judged c j = judged_or c InError j
