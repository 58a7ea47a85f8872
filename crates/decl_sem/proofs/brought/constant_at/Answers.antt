use Rattle.std.specs.Prelude.{None, Some, slice_get}
use Rattle.std.proofs.Common.{◌≡◌, ◌∙◌, ap, sym}
use Rattle.m2_base.specs.Rows.{row_of}
use Rattle.m2_base.specs.Tables.{rows_at}
use Rattle.m2_base.specs.declared.rows.RowMeaning.TheVariants.{Broken}
use Rattle.type_rules.specs.Scenes.{rows_of}
use Rattle.decl_sem.specs.FoundConstants.{constant_by}
use Rattle.decl_sem.proofs.FoundConstants.{missing_row}
use Rattle.std.proofs.lemmas.Option.{get_or_from_slice_get}
use Rattle.m2_base.specs.declared.rows.Place.{Place}
use Rattle.decl_sem.proofs.brought.constant_at.Goals as goal

pub returns-in-None-clause-told : goal.returns-in-None-clause-told
returns-in-None-clause-told g c made in_hand told =
    let rows = rows_at (rows_of (g.S.Scopes.state c.args.scopes.now).frame made) c.args.place.scope in
    let none : slice_get rows c.args.place.ordinal ≡ None = sym (c.in-Known.ensures.told made in_hand told) ∙ c.in-None.is in
    sym (ap (constant_by c.args.place) (missing_row rows c.args.place.ordinal (row_of 0 0 Broken) none))

pub row_before-requires-clause-suits : goal.row_before-requires-clause-suits
row_before-requires-clause-suits g c = c.requires.suits.around

pub row_before-requires-clause-before : goal.row_before-requires-clause-before
row_before-requires-clause-before g c = c.requires.before

pub returns-in-DontKnowYet : goal.returns-in-DontKnowYet
returns-in-DontKnowYet g c = record { reads = c.in-DontKnowYet.ensures.reads; waits = c.in-DontKnowYet.ensures.waits; told = λ _ _ _. tt; member = tt }

pub returns-in-None-clause-reads : goal.returns-in-None-clause-reads
returns-in-None-clause-reads g c = c.in-Known.ensures.reads

pub returns-in-None-clause-waits : goal.returns-in-None-clause-waits
returns-in-None-clause-waits g c = tt

pub returns-in-None-clause-member : goal.returns-in-None-clause-member
returns-in-None-clause-member g c = tt

pub returns-in-Some-clause-reads : goal.returns-in-Some-clause-reads
returns-in-Some-clause-reads g c = c.in-Known.ensures.reads

pub returns-in-Some-clause-waits : goal.returns-in-Some-clause-waits
returns-in-Some-clause-waits g c = tt

pub returns-in-Some-clause-told : goal.returns-in-Some-clause-told
returns-in-Some-clause-told g c made in_hand told =
    let rows = rows_at (rows_of (g.S.Scopes.state c.args.scopes.now).frame made) c.args.place.scope in
    let here : slice_get rows c.args.place.ordinal ≡ Some c.in-Some.row = sym (c.in-Known.ensures.told made in_hand told) ∙ c.in-Some.is in
    c.constant_in.ensures
    ∙ ap (λ (p : Place). constant_by p c.in-Some.row) c.small_place.ensures.same
    ∙ sym (ap (constant_by c.args.place) (get_or_from_slice_get rows c.args.place.ordinal c.in-Some.row (row_of 0 0 Broken) here))
