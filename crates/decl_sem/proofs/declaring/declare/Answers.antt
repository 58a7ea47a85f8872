use Rattle.std.proofs.Common.{refl, sym, ◌∙◌}
use Rattle.m2_base.specs.Views.{stream_view}
use Rattle.decl_sem.specs.declared.declaring.Declared.{Declared}
use Rattle.decl_sem.specs.declared.making.Made.{Made}
use Rattle.decl_sem.proofs.ItemBeginnings.{declares_all, declares_waiting, has_first, making_begins}
use Rattle.decl_sem.proofs.declaring.declare.Goals as goal

pub item_rows-requires-clause-making : goal.item_rows-requires-clause-making
item_rows-requires-clause-making g c =
    let made : Made = record { first = c.in-Some.first; rows = c.new-rows.result; notes = c.new-notes.result } in
    making_begins c.requires made (sym c.first_ordinal.ensures ∙ c.in-Some.is) c.new-rows.ensures

pub unreachable-requires : goal.unreachable-requires
unreachable-requires g c = has_first c.requires (sym c.first_ordinal.ensures ∙ c.in_default.is)

pub returns-in-Ok-Known : goal.returns-in-Ok-Known
returns-in-Ok-Known g c =
    let made : Made = record { first = c.in-Some.first; rows = c.new-rows.result; notes = c.new-notes.result } in
    let making = making_begins c.requires made (sym c.first_ordinal.ensures ∙ c.in-Some.is) c.new-rows.ensures in
    let declared : Declared = record { rows = c.into_list.result; notes = c.item_rows.new.made.notes; effect = c.in-Ok-Known.effect } in
    declares_all c.requires declared c.in-Ok-Known.effect c.new-rows.ensures c.new-notes.ensures.diags c.new-notes.ensures.answers making.count c.into_list.ensures refl refl refl
    (rw c.in-Ok-Known.field-0-is at c.in-Ok-Known.ensures)

pub returns-in-Ok-DontKnowYet : goal.returns-in-Ok-DontKnowYet
returns-in-Ok-DontKnowYet g c = declares_waiting (stream_view c.args.stream.now) c.in-Ok-DontKnowYet.head (rw c.in-Ok-DontKnowYet.field-0-is at c.in-Ok-DontKnowYet.ensures)
