use Rattle.std.proofs.Common.{ℕ, Bool, Some, None, if◌then◌else◌, sym, ap, ◌∙◌}
use Rattle.std.proofs.lemmas.Bool.{le-ltb, lt-ltb}
use Rattle.m2_base.specs.Keys.{before_only}
use Rattle.m2_base.specs.declared.rows.Row.{Row}
use Rattle.m2_base.proofs.KeyLaws.{field_only}
use Rattle.scope_core.proofs.kept.Kept.field.Goals as goal

pub returns-in_err-ordinal : goal.returns-in_err-ordinal
returns-in_err-ordinal c =
    c.from_residual.ensures
    ∙ sym (field_only c.args.self.now.table.rows c.args.own c.args.name ∙ ap (before_only c.args.own) (sym c.first_keyed.ensures ∙ c.in_err-ordinal.was))

pub returns-then-ordinal-own : goal.returns-then-ordinal-own
returns-then-ordinal-own c =
    let own = c.args.own in
    let hit : ℕ × Row = (c.in_ok-ordinal.ordinal, c.in_ok-ordinal.row) in
    sym (field_only c.args.self.now.table.rows own c.args.name ∙ ap (before_only own) (sym c.first_keyed.ensures ∙ c.in_ok-ordinal.was)
    ∙ ap (λ (b : Bool). if b then Some hit else None) (lt-ltb c.in_ok-ordinal.ordinal own c.if-ordinal-own.true))

pub returns-else-ordinal-own : goal.returns-else-ordinal-own
returns-else-ordinal-own c =
    let own = c.args.own in
    let hit : ℕ × Row = (c.in_ok-ordinal.ordinal, c.in_ok-ordinal.row) in
    sym (field_only c.args.self.now.table.rows own c.args.name ∙ ap (before_only own) (sym c.first_keyed.ensures ∙ c.in_ok-ordinal.was)
    ∙ ap (λ (b : Bool). if b then Some hit else None) (le-ltb c.in_ok-ordinal.ordinal own c.if-ordinal-own.false))
