use Rattle.scope_table.proofs.Rooms.{heads_within}
use Rattle.scope_table.proofs.Cuts.{splits_note}
use Rattle.scope_table.proofs.table.ScopeTable.tell.Goals as goal

pub split_seat-note-requires : goal.split_seat-note-requires
split_seat-note-requires c =
    let t = c.args.self.now in let z = t.laid.some_scope in let l = heads_within t.table.shared.key 0 t.table.shared.table_id.words t.laid z t.wide in
    (c.requires.from.0, l, splits_note _ _ _)
