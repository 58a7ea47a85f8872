use Rattle.std.proofs.Common.{◌≡◌, take}
use Rattle.scope_table.specs.Plays.{puts}
use Rattle.scope_table.proofs.table.ScopeTable.put_words.Given as goal

abbrev pub invariant-loop-field : goal.invariant-loop-field
invariant-loop-field l = record {
  table_id : l.seat.table_id ≡ l.initial.seat.table_id;
  me : l.seat.me ≡ (puts l.initial.seat.me.0 (take l.field l.words), l.initial.seat.me.1);
}
