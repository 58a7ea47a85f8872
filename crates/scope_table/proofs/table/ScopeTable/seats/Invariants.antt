use Rattle.std.proofs.Common.{◌≡◌, ℕ, ◌-◌, ◌<◌, [], length, get_or}
use Rattle.scope_table.specs.Opening.{IsStart}
use Rattle.scope_table.specs.Rule.{upto}
use Rattle.scope_table.specs.Seats.{key_of, id_of, IsFirst}
use Rattle.scope_table.specs.declared.table.TableSeat.{TableSeat}
use Rattle.scope_table.proofs.table.ScopeTable.seats.Given as goal

abbrev pub ghosts-tell_first : goal.ghosts-tell_first
ghosts-tell_first a = record { about = key_of a.self.now }

abbrev pub invariant-loop-scope : goal.invariant-loop-scope
invariant-loop-scope l = record {
  table_id : l.first.table_id ≡ id_of l.self;
  bare : l.first.me.1 ≡ [];
  start : IsStart (key_of l.self) l.first.me.0;
  rights : l.first.me.0.rights ≡ upto l.scope (l.fn.many - l.scope);
  each : (k : ℕ) (d : TableSeat) → k < l.scope → IsFirst l.self k (get_or l.seats.items k d);
  all : length l.seats.items ≡ l.scope;
}
