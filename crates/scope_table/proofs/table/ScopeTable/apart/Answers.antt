use Rattle.std.proofs.Common.{◌∙◌}
use Rattle.scope_table.proofs.Rooms.{heads_within}
use Rattle.scope_table.proofs.Cuts.{tells_once}
use Rattle.scope_table.proofs.table.ScopeTable.apart.Goals as goal

pub load-requires : goal.load-requires
load-requires c =
    let t = c.args.self.now in let z = t.laid.some_scope in let l = heads_within t.table.shared.key 0 t.table.shared.table_id.words t.laid z t.wide in
    (c.join_as.ensures.0 ∙ c.requires.one.0, l, tells_once _ _ _ _)
