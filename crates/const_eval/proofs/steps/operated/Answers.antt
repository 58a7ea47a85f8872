use Rattle.m2_base.specs.Statics.Operations.{operate}
use Rattle.const_eval.proofs.Analysing.{noted_operand}
use Rattle.const_eval.proofs.steps.operated.Goals as goal

pub returns : goal.returns
returns g c =
    noted_operand c.args.notes.now c.note.new.notes c.args.site.now c.operate-given.result c.note.result (λ k. operate k c.args.operator.operator c.args.operator.at c.args.sides.0.operand c.args.sides.0.at c.args.sides.1.operand c.args.sides.1.at)
    c.note.ensures.answers c.note.ensures.diags c.note.ensures.waits c.note.ensures.there c.note.ensures.told
    c.operate-given.ensures.reads c.operate-given.ensures.waits c.operate-given.ensures.told c.operate-given.ensures.there

pub note-requires : goal.note-requires
note-requires g c = tt

pub operate-given-requires : goal.operate-given-requires
operate-given-requires g c = record { suits = c.requires.suits; x = c.requires.x; y = c.requires.y }
