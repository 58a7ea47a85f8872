use Rattle.std.proofs.Common.{rules, ◌≡◌, sym, subst, arith}
use Rattle.scope_core.specs.Kept.{tables_in, rooms_in}
use Rattle.scope_core.specs.PlainScopes.{IsHoused}
use Rattle.scope_core.proofs.Filling.{started_housed}
use Rattle.scope_core.proofs.plain_scopes.PlainScopes.new.Goals as goal

pub invariant_of-result : goal.invariant_of-result
invariant_of-result c =
    let same : c.in_ok-areas.areas.items ≡ c.args.sizes.now = search rules in
    subst (λ areas. IsHoused (record { texts = c.args.texts.now; tables = tables_in c.in_ok-tables.tables.items; areas = areas; fills = 1 }) (rooms_in c.in_ok-tables.tables.items)) (sym same)
    (started_housed c.args.texts.now c.args.sizes.now c.in_ok-tables.tables.items c.main-unit.ensures.unit c.requires.several.0 (λ s. omega (arith, c.type_inv.sizes s)) c.in_ok-tables.ensures.tables c.in_ok-tables.ensures.rooms)
