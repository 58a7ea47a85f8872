use Rattle.std.proofs.Common.{Some, ap, sym, ◌∙◌, arith}
use Rattle.std.specs.HashMap.{get}
use Rattle.m2_base.specs.Keys.{first_keyed, is_same_key}
use Rattle.scope_core.specs.Kept.{TableWithRoom}
use Rattle.scope_core.proofs.Indexing.{indexed_row, indexed_within}
use Rattle.scope_core.proofs.kept.Kept.first_keyed.Goals as goal

pub index-requires : goal.index-requires
index-requires c =
    let within = indexed_within (get is_same_key c.self.inside.index) c.self.inside.rows.items c.args.key c.in_ok-ordinal.ordinal c.self.invariant
    (sym c.ordinal_of.ensures ∙ c.in_ok-ordinal.was) in
    omega (arith, within, c.self.inside.rows.ok.0)

pub returns : goal.returns
returns c =
    ap (λ r. Some (c.in_ok-ordinal.ordinal, r)) c.index.ensures
    ∙ indexed_row (get is_same_key c.self.inside.index) c.self.inside.rows.items c.args.key c.in_ok-ordinal.ordinal c.index.result.now c.self.invariant
    (sym c.ordinal_of.ensures ∙ c.in_ok-ordinal.was)
    ∙ ap (λ (k : TableWithRoom). first_keyed c.args.key k.table.rows 0) c.self.view_is
