use Rattle.std.proofs.Common.{[], ◌∷◌, Ok, Err}
use Rattle.m2_base.specs.Rows.{set_kind}
use Rattle.m2_base.specs.Statics.Arrays.{checked_base}
use Rattle.m2_base.specs.Statics.Makes.{makes_row, only_gives}
use Rattle.m2_base.specs.Statics.Shapes.{nameless}
use Rattle.m2_base.specs.declared.replies.Ask.TheVariants.{Known}
use Rattle.m2_base.specs.declared.rows.RowMeaning.TheVariants.{Set}
use Rattle.decl_sem.specs.Stood.{may_be_base}
use Rattle.decl_sem.proofs.Asking.{asked_waits, behind_read, checked, making_read, set_meaning}
use Rattle.decl_sem.proofs.OneRows.{room_for_row, small_scope}
use Rattle.decl_sem.proofs.Pieces.{failed, making_front, making_on, then_after}
use Rattle.decl_sem.proofs.SectionLists.{type_stands}
use Rattle.decl_sem.proofs.sets.make_set.Goals as goal

pub stand_in-requires-clause-making : goal.stand_in-requires-clause-making
stand_in-requires-clause-making g c = making_front [] (nameless set_kind c.args.at ∷ []) c.requires.making

pub returns-in-DontKnowYet : goal.returns-in-DontKnowYet
returns-in-DontKnowYet g c = asked_waits c.in-DontKnowYet.head c.stand_in.ensures.reads c.in-DontKnowYet.ensures.waits

pub returns-in-Err : goal.returns-in-Err
returns-in-Err g c =
    failed
    (checked may_be_base c.args.base_at c.args.of (Err c.in-Err.memory) c.stand_in.result c.may_be_base-keep.result (making_front [] (nameless set_kind c.args.at ∷ []) c.requires.making) c.stand_in.ensures.reads c.stand_in.ensures.waits c.stand_in.ensures.told c.in-Known.is c.may_be_base-keep.ensures
    (c.in-Err.ensures (g.S.Scopes.state c.stand_in.new.scopes) (making_read c.stand_in.ensures.reads (making_front [] (nameless set_kind c.args.at ∷ []) c.requires.making)) (behind_read c.stand_in.ensures.reads c.requires.there))) c.in-Err.memory

pub put_plain-requires-clause-room : goal.put_plain-requires-clause-room
put_plain-requires-clause-room g c =
    let p = checked may_be_base c.args.base_at c.args.of (Ok (Known c.in-Ok.value)) c.stand_in.result c.may_be_base-keep.result (making_front [] (nameless set_kind c.args.at ∷ []) c.requires.making) c.stand_in.ensures.reads c.stand_in.ensures.waits c.stand_in.ensures.told c.in-Known.is c.may_be_base-keep.ensures
    (c.in-Ok.ensures (g.S.Scopes.state c.stand_in.new.scopes) (making_read c.stand_in.ensures.reads (making_front [] (nameless set_kind c.args.at ∷ []) c.requires.making)) (behind_read c.stand_in.ensures.reads c.requires.there)) in
    room_for_row (making_on {ss = []} {ts = nameless set_kind c.args.at ∷ []} tt c.requires.making p)

pub put_plain-requires-clause-scopes : goal.put_plain-requires-clause-scopes
put_plain-requires-clause-scopes g c =
    let p = checked may_be_base c.args.base_at c.args.of (Ok (Known c.in-Ok.value)) c.stand_in.result c.may_be_base-keep.result (making_front [] (nameless set_kind c.args.at ∷ []) c.requires.making) c.stand_in.ensures.reads c.stand_in.ensures.waits c.stand_in.ensures.told c.in-Known.is c.may_be_base-keep.ensures
    (c.in-Ok.ensures (g.S.Scopes.state c.stand_in.new.scopes) (making_read c.stand_in.ensures.reads (making_front [] (nameless set_kind c.args.at ∷ []) c.requires.making)) (behind_read c.stand_in.ensures.reads c.requires.there)) in
    small_scope c.requires.making p.there

pub returns-in-Err-put_plain : goal.returns-in-Err-put_plain
returns-in-Err-put_plain g c =
    let p = checked may_be_base c.args.base_at c.args.of (Ok (Known c.in-Ok.value)) c.stand_in.result c.may_be_base-keep.result (making_front [] (nameless set_kind c.args.at ∷ []) c.requires.making) c.stand_in.ensures.reads c.stand_in.ensures.waits c.stand_in.ensures.told c.in-Known.is c.may_be_base-keep.ensures
    (c.in-Ok.ensures (g.S.Scopes.state c.stand_in.new.scopes) (making_read c.stand_in.ensures.reads (making_front [] (nameless set_kind c.args.at ∷ []) c.requires.making)) (behind_read c.stand_in.ensures.reads c.requires.there)) in
    let making = making_on {ss = []} {ts = nameless set_kind c.args.at ∷ []} tt c.requires.making p in
    then_after (λ d. only_gives (checked_base d c.args.base_at c.args.of)) (λ base e. makes_row e c.args.at (Set base)) (Err c.in-Err-put_plain.memory) tt c.requires.making p
    (c.in-Err-put_plain.ensures.piece (g.S.Scopes.state c.stand_in.new.scopes) making (set_meaning making (type_stands p)))

pub returns : goal.returns
returns g c =
    let p = checked may_be_base c.args.base_at c.args.of (Ok (Known c.in-Ok.value)) c.stand_in.result c.may_be_base-keep.result (making_front [] (nameless set_kind c.args.at ∷ []) c.requires.making) c.stand_in.ensures.reads c.stand_in.ensures.waits c.stand_in.ensures.told c.in-Known.is c.may_be_base-keep.ensures
    (c.in-Ok.ensures (g.S.Scopes.state c.stand_in.new.scopes) (making_read c.stand_in.ensures.reads (making_front [] (nameless set_kind c.args.at ∷ []) c.requires.making)) (behind_read c.stand_in.ensures.reads c.requires.there)) in
    let making = making_on {ss = []} {ts = nameless set_kind c.args.at ∷ []} tt c.requires.making p in
    then_after (λ d. only_gives (checked_base d c.args.base_at c.args.of)) (λ base e. makes_row e c.args.at (Set base)) (Ok (Known c.in-Ok-put_plain.value)) tt c.requires.making p
    (c.in-Ok-put_plain.ensures.piece (g.S.Scopes.state c.stand_in.new.scopes) making (set_meaning making (type_stands p)))
