use Rattle.m2_base.specs.Gives.{and_then}
use Rattle.m2_base.specs.Statics.Functions.{ordinal_argument, ordinal_type_argument, val_as}
use Rattle.const_eval.proofs.Analysing.{and_after, failed, noted_operand, noted_type, waiting}
use Rattle.const_eval.proofs.Later.{IsOperand_read, SuitsSite_read}
use Rattle.const_eval.proofs.Sequences.{stands_after}
use Rattle.const_eval.proofs.TypesThere.{standard_there}
use Rattle.const_eval.proofs.calls.val_of_operand.Goals as goal

pub returns-in-DontKnowYet : goal.returns-in-DontKnowYet
returns-in-DontKnowYet g c =
    let first = noted_type c.args.notes.now c.note_type.new.notes c.args.site.now c.ordinal_type_argument-asked.result c.note_type.result (λ k. ordinal_type_argument k c.args.of.at c.args.of.operand)
    c.note_type.ensures.answers c.note_type.ensures.diags c.note_type.ensures.waits c.note_type.ensures.there c.note_type.ensures.told
    (standard_there c.requires.suits.around 10)
    c.ordinal_type_argument-asked.ensures.reads c.ordinal_type_argument-asked.ensures.waits c.ordinal_type_argument-asked.ensures.told c.ordinal_type_argument-asked.ensures.there in
    waiting (rw (c.in-Ok.is, c.in-DontKnowYet.is) at first)

pub returns-in-Err : goal.returns-in-Err
returns-in-Err g c =
    let first = noted_type c.args.notes.now c.note_type.new.notes c.args.site.now c.ordinal_type_argument-asked.result c.note_type.result (λ k. ordinal_type_argument k c.args.of.at c.args.of.operand)
    c.note_type.ensures.answers c.note_type.ensures.diags c.note_type.ensures.waits c.note_type.ensures.there c.note_type.ensures.told
    (standard_there c.requires.suits.around 10)
    c.ordinal_type_argument-asked.ensures.reads c.ordinal_type_argument-asked.ensures.waits c.ordinal_type_argument-asked.ensures.told c.ordinal_type_argument-asked.ensures.there in
    failed (rw c.in-Err.is at first) _

pub val_of-given-requires-clause-suits : goal.val_of-given-requires-clause-suits
val_of-given-requires-clause-suits g c = SuitsSite_read c.ordinal_type_argument-asked.ensures.reads c.requires.suits

pub val_of-given-requires-clause-of : goal.val_of-given-requires-clause-of
val_of-given-requires-clause-of g c =
    let first = noted_type c.args.notes.now c.note_type.new.notes c.args.site.now c.ordinal_type_argument-asked.result c.note_type.result (λ k. ordinal_type_argument k c.args.of.at c.args.of.operand)
    c.note_type.ensures.answers c.note_type.ensures.diags c.note_type.ensures.waits c.note_type.ensures.there c.note_type.ensures.told
    (standard_there c.requires.suits.around 10)
    c.ordinal_type_argument-asked.ensures.reads c.ordinal_type_argument-asked.ensures.waits c.ordinal_type_argument-asked.ensures.told c.ordinal_type_argument-asked.ensures.there in
    stands_after (rw (c.in-Ok.is, c.in-Known.is) at first)

pub val_of-given-requires-clause-x : goal.val_of-given-requires-clause-x
val_of-given-requires-clause-x g c = IsOperand_read c.args.x.operand c.ordinal_type_argument-asked.ensures.reads c.requires.x

pub returns : goal.returns
returns g c =
    let first = noted_type c.args.notes.now c.note_type.new.notes c.args.site.now c.ordinal_type_argument-asked.result c.note_type.result (λ k. ordinal_type_argument k c.args.of.at c.args.of.operand)
    c.note_type.ensures.answers c.note_type.ensures.diags c.note_type.ensures.waits c.note_type.ensures.there c.note_type.ensures.told
    (standard_there c.requires.suits.around 10)
    c.ordinal_type_argument-asked.ensures.reads c.ordinal_type_argument-asked.ensures.waits c.ordinal_type_argument-asked.ensures.told c.ordinal_type_argument-asked.ensures.there in
    and_after (λ k. ordinal_type_argument k c.args.of.at c.args.of.operand) (λ t k. and_then (ordinal_argument k c.args.x.at c.args.x.operand) (λ v. val_as k c.args.x.at t v)) c.note.result
    (rw (c.in-Ok.is, c.in-Known.is) at first)
    (noted_operand c.note_type.new.notes c.note.new.notes c.args.site.now c.val_of-given.result c.note.result
    (λ k. and_then (ordinal_argument k c.args.x.at c.args.x.operand) (λ v. val_as k c.args.x.at c.in-Known.value v))
    c.note.ensures.answers c.note.ensures.diags c.note.ensures.waits c.note.ensures.there c.note.ensures.told
    c.val_of-given.ensures.reads c.val_of-given.ensures.waits c.val_of-given.ensures.told c.val_of-given.ensures.there)

pub note-requires : goal.note-requires
note-requires g c = tt

pub note_type-requires : goal.note_type-requires
note_type-requires g c = tt

pub ordinal_type_argument-asked-requires : goal.ordinal_type_argument-asked-requires
ordinal_type_argument-asked-requires g c = record { suits = c.requires.suits; x = c.requires.of }
