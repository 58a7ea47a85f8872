use Rattle.m2_base.specs.Statics.Constants.{selected}
use Rattle.m2_base.specs.declared.replies.Ask.TheVariants.{Known}
use Rattle.type_rules.specs.Sites.{context_of}
use Rattle.type_rules.proofs.Reading.{Reads-refl}
use Rattle.const_eval.proofs.Analysing.{noted_operand}
use Rattle.const_eval.proofs.steps.picked.Goals as goal

pub returns : goal.returns
returns c now =
    noted_operand c.args.notes.now c.note.new.notes c.args.site.now (Known c.selected.result) c.note.result (λ k. selected k c.args.at c.args.operand)
    c.note.ensures.answers c.note.ensures.diags c.note.ensures.waits c.note.ensures.there c.note.ensures.told
    (Reads-refl now) tt (λ made in_hand told. c.selected.ensures.told (context_of now.frame made c.args.site.now)) (c.selected.ensures.there now.frame)
