use Rattle.std.proofs.Common.{Err, refl}
use Rattle.m2_base.specs.Diagnostics.{code_of}
use Rattle.m2_base.specs.Statics.Contexts.{refuse}
use Rattle.m2_base.specs.declared.operands.Operand.TheVariants.{InError}
use Rattle.m2_base.specs.declared.replies.Ask.TheVariants.{Known}
use Rattle.type_rules.proofs.Reading.{Reads-refl}
use Rattle.const_eval.proofs.Analysing.{noted_operand}
use Rattle.const_eval.proofs.calls.fault_noted.Goals as goal

pub returns : goal.returns
returns c now =
    noted_operand c.args.notes.now c.note.new.notes c.args.site.now (Known (Err (record { at = c.args.at; kind = c.args.kind }))) c.note.result (λ k. refuse k c.args.at (code_of c.args.kind) InError)
    c.note.ensures.answers c.note.ensures.diags c.note.ensures.waits c.note.ensures.there c.note.ensures.told
    (Reads-refl now) tt (λ made in_hand told. refl) tt
