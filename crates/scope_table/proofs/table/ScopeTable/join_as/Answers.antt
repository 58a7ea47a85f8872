use Rattle.scope_table.proofs.Cuts.{never}
use Rattle.scope_table.proofs.table.ScopeTable.join_as.Goals as goal

pub join_seat-requires : goal.join_seat-requires
join_seat-requires g c = let both = c.requires.both in (c.requires.table.0, c.requires.table.1, c.requires.table.2, c.requires.table.3, never _ _ _ both.0 _ _ _ _ both.1 both.2)
