use Rattle.m2_base.specs.Statics.Sets.{element_of}
use Rattle.const_eval.proofs.Analysing.{noted_operand}
use Rattle.const_eval.proofs.steps.taken.Goals as goal

pub returns : goal.returns
returns g c =
    noted_operand c.args.notes.now c.note.new.notes c.args.site.now c.element_of-given.result c.note.result (λ k. element_of k c.args.base c.args.x.at c.args.x.operand)
    c.note.ensures.answers c.note.ensures.diags c.note.ensures.waits c.note.ensures.there c.note.ensures.told
    c.element_of-given.ensures.reads c.element_of-given.ensures.waits c.element_of-given.ensures.told c.element_of-given.ensures.there

pub note-requires : goal.note-requires
note-requires g c = tt

pub element_of-given-requires : goal.element_of-given-requires
element_of-given-requires g c = record { suits = c.requires.suits; base = c.requires.base; x = c.requires.x }
