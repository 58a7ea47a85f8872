use Rattle.std.specs.Prelude.{[], Ok, Err}
use Rattle.std.proofs.Common.{refl}
use Rattle.m2_base.specs.declared.replies.Ask.TheVariants.{Known}
use Rattle.decl_sem.proofs.ParameterLists.{parameter_piece, type_behind, type_piece}
use Rattle.decl_sem.proofs.Pieces.{making_on}
use Rattle.decl_sem.proofs.section_rows.parameter_type.Goals as goal

pub put_open-requires-clause-making : goal.put_open-requires-clause-making
put_open-requires-clause-making g c = making_on {ss = []} tt c.requires.making (type_piece c.args.qual c.requires.making refl refl (rw c.in-Ok-Known.field-0-is at c.in-Ok-Known.ensures))

pub put_open-requires-clause-of : goal.put_open-requires-clause-of
put_open-requires-clause-of g c =
    type_behind c.args.qual c.small_place.result c.small_place.ensures.same (rw c.small_place.ensures.same c.small_place.ensures.small) c.requires.making
    (type_piece c.args.qual c.requires.making refl refl (rw c.in-Ok-Known.field-0-is at c.in-Ok-Known.ensures))

pub returns-in-Ok : goal.returns-in-Ok
returns-in-Ok g c =
    parameter_piece c.args.is_open c.args.qual c.small_place.result (Ok (Known c.in-Ok.place)) c.small_place.ensures.same c.requires.making
    (type_piece c.args.qual c.requires.making refl refl (rw c.in-Ok-Known.field-0-is at c.in-Ok-Known.ensures)) c.in-Ok.ensures

pub returns-in-Err-put_open : goal.returns-in-Err-put_open
returns-in-Err-put_open g c =
    parameter_piece c.args.is_open c.args.qual c.small_place.result (Err c.in-Err-put_open.memory) c.small_place.ensures.same c.requires.making
    (type_piece c.args.qual c.requires.making refl refl (rw c.in-Ok-Known.field-0-is at c.in-Ok-Known.ensures)) c.in-Err-put_open.ensures

pub type_of_qual-requires-clause-suits : goal.type_of_qual-requires-clause-suits
type_of_qual-requires-clause-suits g c = c.requires.making.suits

pub type_of_qual-requires-clause-read : goal.type_of_qual-requires-clause-read
type_of_qual-requires-clause-read g c = c.requires.read

pub returns-in-Ok-DontKnowYet : goal.returns-in-Ok-DontKnowYet
returns-in-Ok-DontKnowYet g c =
    let p = rw c.in-Ok-DontKnowYet.field-0-is at c.in-Ok-DontKnowYet.ensures in
    record { works = p.works; waits = p.waits; first = refl; grown = tt; told = λ hand in_hand told same. tt; there = tt }
