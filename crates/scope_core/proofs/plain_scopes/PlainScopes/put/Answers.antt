use Rattle.std.proofs.Common.{◌∙◌, ap, length, refl, sym, subst}
use Rattle.std.proofs.lemmas.Result.{IfOk-at_ok}
use Rattle.m2_base.specs.Scopes.{CanEnter}
use Rattle.scope_core.specs.PlainScopes.{IsSoundly, filled, state_of}
use Rattle.scope_core.specs.Kept.{tables_in, with_rows}
use Rattle.scope_core.proofs.Filling.{lent_whole, put_housed}
use Rattle.scope_core.proofs.KeptTables.{within_lent}
use Rattle.scope_core.proofs.plain_scopes.PlainScopes.put.Goals as goal

pub invariant_of-self : goal.invariant_of-self
invariant_of-self c =
    put_housed _ c.args.rows.now c.self.inside.tables.items c.deref_mut.result.now c.add_rows.new.kept c.self.inside.tables.len c.self.invariant refl
    (subst (λ v. CanEnter (state_of v) c.args.rows.now) (sym c.self.view_is) c.requires)
    c.deref_mut.ensures.value c.self.inside.tables.ok.0 c.add_rows.auto.kept (IfOk-at_ok _ c.unwrap.ensures c.add_rows.ensures.ok) c.add_rows.ensures.rooms

pub add_rows-requires-clause-inside : goal.add_rows-requires-clause-inside
add_rows-requires-clause-inside c = within_lent _ _ _ c.deref_mut.ensures.value c.self.invariant.sound.inside

pub returns-clause-filled : goal.returns-clause-filled
returns-clause-filled c =
    let is = c.deref_mut.ensures.value in let i = c.self.inside in
    ap (λ t. record { texts = i.texts.now; tables = t; areas = i.areas.items; fills = i.fills })
    (ap tables_in (lent_whole _ _ c.add_rows.new.kept i.tables.ok.0 (c.add_rows.auto.kept ∙ ap length is)) ∙ IfOk-at_ok _ c.unwrap.ensures c.add_rows.ensures.ok
    ∙ ap (λ k. with_rows (tables_in k) i.fills c.args.rows.now) is) ∙ ap (λ p. filled p c.args.rows.now) c.self.view_is

pub returns-clause-sound : goal.returns-clause-sound
returns-clause-sound c = subst IsSoundly c.self.view_is c.self.invariant.sound
