use Rattle.std.proofs.Common.{◌<◌, length, subst, sym}
use Rattle.scope_core.specs.PlainScopes.{IsSoundly}
use Rattle.scope_core.proofs.KeptTables.{lent_there}
use Rattle.scope_core.proofs.plain_scopes.PlainScopes.field.Goals as goal

pub field_in-requires-clause-exist : goal.field_in-requires-clause-exist
field_in-requires-clause-exist c =
    let sound = c.self.invariant.sound in
    lent_there c.self.inside.tables.items _ c.self.inside.areas.items c.args.of.scope c.deref.ensures.value sound.sizes
    (subst (λ p. c.args.of.scope < length p.areas) (sym c.self.view_is) c.requires)

pub returns-clause-sound : goal.returns-clause-sound
returns-clause-sound c = subst IsSoundly c.self.view_is c.self.invariant.sound
