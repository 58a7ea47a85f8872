use Rattle.std.proofs.Common.{◌≡◌, ◌∙◌, ◌<◌, ◌++◌, ℕ, List, ap, drop, length, subst, sym, take}
use Rattle.std.proofs.lemmas.List.{length-map}
use Rattle.m2_base.specs.Tables.{Table}
use Rattle.scope_core.specs.Events.{AreCountable, IsLawful, after}
use Rattle.scope_core.specs.Kept.{TableWithRoom, tables_in, with_rows}
use Rattle.scope_core.specs.declared.event.Event.{Event}
use Rattle.scope_core.proofs.Filling.{lent_whole}
use Rattle.scope_core.proofs.Runs.{enter_countable}
use Rattle.m2_base.proofs.Without.{on_err_anyway, on_ok_of_err}
use Rattle.scope_core.proofs.tables.step.Goals as goal

-- a scope that is there is there in what was lent
within_lent : (before : List Table) (old lent : List TableWithRoom) (s : ℕ) → lent ≡ old → tables_in old ≡ before → s < length before → s < length lent
within_lent before old lent s is view there =
    subst (λ n. s < n) (sym (ap length is ∙ sym (length-map old (λ k. k.table)) ∙ ap length view)) there

-- what was lent came back as it is after the event
after_lent : (before : List Table) (old lent new : List TableWithRoom) (n : ℕ) (event e : Event) → n ≡ length old → lent ≡ old → length new ≡ length lent
    → tables_in old ≡ before → event ≡ e → tables_in new ≡ after (tables_in lent) e → tables_in (take n (new ++ drop (length new) old)) ≡ after before event
after_lent before old lent new n event e size is long view that told =
    ap tables_in (lent_whole n old new size (long ∙ ap length is)) ∙ told ∙ (λ i. after ((ap tables_in is ∙ view) i) (sym that i))

-- what was lent came back as it was
same_lent : (old lent new : List TableWithRoom) (n : ℕ) → n ≡ length old → lent ≡ old → length new ≡ length lent → tables_in new ≡ tables_in lent
    → tables_in (take n (new ++ drop (length new) old)) ≡ tables_in old
same_lent old lent new n size is long told = ap tables_in (lent_whole n old new size (long ∙ ap length is)) ∙ told ∙ ap tables_in is

pub add_rows-requires-clause-countable : goal.add_rows-requires-clause-countable
add_rows-requires-clause-countable c =
    let same : tables_in c.deref_mut.result.now ≡ c.args.tables.now = ap tables_in c.deref_mut.ensures.value ∙ c.tables.view_is in
    let lawful = subst (λ e. IsLawful c.args.tables.now e) c.in-Enter.is c.requires.lawful in
    let countable = subst (λ e. AreCountable (after c.args.tables.now e)) c.in-Enter.is c.requires.countable in
    rw (same, c.deref.ensures.value) (enter_countable c.args.tables.now c.in-Enter.scope c.in-Enter.rows.items lawful.0.0 countable)

pub add_rows-requires-clause-inside : goal.add_rows-requires-clause-inside
add_rows-requires-clause-inside c =
    let lawful = subst (λ e. IsLawful c.args.tables.now e) c.in-Enter.is c.requires.lawful in
    within_lent _ _ _ _ c.deref_mut.ensures.value c.tables.view_is lawful.0.0

pub close-requires : goal.close-requires
close-requires c =
    let lawful = subst (λ e. IsLawful c.args.tables.now e) c.in-Complete.is c.requires.lawful in
    within_lent _ _ _ _ c.deref_mut-in-Complete.ensures.value c.tables.view_is lawful.0

pub returns-in-Complete-clause-ok : goal.returns-in-Complete-clause-ok
returns-in-Complete-clause-ok c =
    after_lent _ _ _ c.close.new.kept _ _ _ c.tables.inside.list.ok.0 c.deref_mut-in-Complete.ensures.value c.close.auto.kept c.tables.view_is
    c.in-Complete.is c.close.ensures.tables

pub invariant_of-tables-in-Complete : goal.invariant_of-tables-in-Complete
invariant_of-tables-in-Complete c =
    subst AreCountable
    (sym (after_lent _ _ _ c.close.new.kept _ _ _ c.tables.inside.list.ok.0 c.deref_mut-in-Complete.ensures.value c.close.auto.kept c.tables.view_is
    c.in-Complete.is c.close.ensures.tables)) c.requires.countable

pub returns-in_ok-add_rows-in-Enter-clause-ok : goal.returns-in_ok-add_rows-in-Enter-clause-ok
returns-in_ok-add_rows-in-Enter-clause-ok c =
    after_lent _ _ _ c.add_rows.new.kept _ _ _ c.tables.inside.list.ok.0 c.deref_mut.ensures.value c.add_rows.auto.kept c.tables.view_is c.in-Enter.is
    (c.in_ok-add_rows-in-Enter.ensures.ok ∙ ap (λ rows. with_rows (tables_in c.deref_mut.result.now) c.in-Enter.scope rows) c.deref.ensures.value)

pub invariant_of-tables-in-Enter : goal.invariant_of-tables-in-Enter
invariant_of-tables-in-Enter c =
    subst AreCountable
    (sym (after_lent _ _ _ c.add_rows.new.kept _ _ _ c.tables.inside.list.ok.0 c.deref_mut.ensures.value c.add_rows.auto.kept c.tables.view_is c.in-Enter.is
    (c.in_ok-add_rows-in-Enter.ensures.ok ∙ ap (λ rows. with_rows (tables_in c.deref_mut.result.now) c.in-Enter.scope rows) c.deref.ensures.value)))
    c.requires.countable

pub invariant_of-tables : goal.invariant_of-tables
invariant_of-tables c =
    subst AreCountable
    (sym (same_lent _ _ c.add_rows.new.kept _ c.tables.inside.list.ok.0 c.deref_mut.ensures.value c.add_rows.auto.kept
    c.in_err-add_rows-in-Enter.ensures.err)) c.tables.invariant

pub returns-in_err-add_rows-in-Enter-clause-err : goal.returns-in_err-add_rows-in-Enter-clause-err
returns-in_err-add_rows-in-Enter-clause-err c =
    on_err_anyway c.from_residual.result
    (same_lent _ _ c.add_rows.new.kept _ c.tables.inside.list.ok.0 c.deref_mut.ensures.value c.add_rows.auto.kept c.in_err-add_rows-in-Enter.ensures.err
    ∙ c.tables.view_is)

pub returns-in_err-add_rows-in-Enter-clause-ok : goal.returns-in_err-add_rows-in-Enter-clause-ok
returns-in_err-add_rows-in-Enter-clause-ok c = on_ok_of_err _ c.from_residual.result c.from_residual.ensures.0
