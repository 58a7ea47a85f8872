use Rattle.std.proofs.Common.{◌∙◌, ap, length, refl, sym, subst}
use Rattle.m2_base.specs.Scopes.{CanComplete}
use Rattle.scope_core.specs.PlainScopes.{IsSoundly, closed, state_of}
use Rattle.scope_core.specs.Kept.{completed, tables_in}
use Rattle.scope_core.proofs.Filling.{finish_housed, lent_whole}
use Rattle.scope_core.proofs.KeptTables.{within_lent}
use Rattle.scope_core.proofs.plain_scopes.PlainScopes.finish.Goals as goal

pub invariant_of-self : goal.invariant_of-self
invariant_of-self c =
    finish_housed _ c.self.inside.tables.items c.deref_mut.result.now c.close.new.kept c.self.inside.tables.len c.self.invariant refl
    (subst (λ v. CanComplete (state_of v)) (sym c.self.view_is) c.requires)
    c.deref_mut.ensures.value c.self.inside.tables.ok.0 c.close.auto.kept c.close.ensures.tables c.close.ensures.rooms

pub close-requires : goal.close-requires
close-requires c = within_lent _ _ _ c.deref_mut.ensures.value c.self.invariant.sound.inside

pub returns-clause-closed : goal.returns-clause-closed
returns-clause-closed c =
    let is = c.deref_mut.ensures.value in let i = c.self.inside in
    ap (λ t. record { texts = i.texts.now; tables = t; areas = i.areas.items; fills = i.fills })
    (ap tables_in (lent_whole _ _ c.close.new.kept i.tables.ok.0 (c.close.auto.kept ∙ ap length is)) ∙ c.close.ensures.tables
    ∙ ap (λ k. completed (tables_in k) i.fills) is) ∙ ap closed c.self.view_is

pub returns-clause-sound : goal.returns-clause-sound
returns-clause-sound c = subst IsSoundly c.self.view_is c.self.invariant.sound
