use Rattle.m2_base.specs.Statics.Constants.{value_wanted}
use Rattle.m2_base.specs.declared.replies.Ask.TheVariants.{Known}
use Rattle.type_rules.specs.Sites.{context_of}
use Rattle.type_rules.proofs.Reading.{Reads-refl}
use Rattle.const_eval.proofs.Analysing.{noted_operand}
use Rattle.const_eval.proofs.calls.value_noted.Goals as goal

pub returns : goal.returns
returns c now stands =
    noted_operand c.args.notes.now c.note.new.notes c.args.site.now (Known c.value_wanted.result) c.note.result (λ k. value_wanted k c.args.at c.args.operand)
    c.note.ensures.answers c.note.ensures.diags c.note.ensures.waits c.note.ensures.there c.note.ensures.told
    (Reads-refl now) tt (λ made in_hand told. c.value_wanted.ensures.told (context_of now.frame made c.args.site.now)) (c.value_wanted.ensures.there now.frame stands)
