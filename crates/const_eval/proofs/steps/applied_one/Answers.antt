use Rattle.m2_base.specs.Statics.Operations.{apply_one}
use Rattle.const_eval.proofs.Analysing.{noted_operand}
use Rattle.const_eval.proofs.steps.applied_one.Goals as goal

pub returns : goal.returns
returns g c =
    noted_operand c.args.notes.now c.note.new.notes c.args.site.now c.apply_one-given.result c.note.result (λ k. apply_one k c.args.operator.operator c.args.operator.at c.args.operand)
    c.note.ensures.answers c.note.ensures.diags c.note.ensures.waits c.note.ensures.there c.note.ensures.told
    c.apply_one-given.ensures.reads c.apply_one-given.ensures.waits c.apply_one-given.ensures.told c.apply_one-given.ensures.there

pub note-requires : goal.note-requires
note-requires g c = tt

pub apply_one-given-requires : goal.apply_one-given-requires
apply_one-given-requires g c = record { suits = c.requires.suits; operand = c.requires.operand }
