use Rattle.scope_table.proofs.Rooms.{heads_within}
use Rattle.scope_table.proofs.Cuts.{tells_as}
use Rattle.scope_table.proofs.table.ScopeTable.tell_first.Goals as goal

pub join_seat-requires : goal.join_seat-requires
join_seat-requires g c =
    let t = c.args.self.now in let z = t.laid.some_scope in let l = heads_within t.table.shared.key 0 t.table.shared.table_id.words t.laid z t.wide in
    (c.requires.table.0, c.requires.table.1, c.requires.table.2, l, tells_as _ _ _ _ _ _ c.requires.about)
