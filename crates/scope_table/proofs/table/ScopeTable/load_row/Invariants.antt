use Rattle.std.proofs.Common.{◌≡◌, ℕ, ◌+◌, ◌<◌, length, get_or}
use Rattle.scope_table.specs.Plays.{IsWordOf}
use Rattle.scope_table.specs.Seats.{view}
use Rattle.scope_table.proofs.table.ScopeTable.load_row.Given as goal

abbrev pub invariant-loop-field : goal.invariant-loop-field
invariant-loop-field l = record {
  seat : l.seat ≡ l.initial.seat;
  many : length l.words ≡ 8;
  words : (f : ℕ) → f < l.field → IsWordOf (view l.initial.seat) l.fn.place.scope l.fn.place.ordinal (l.first + f) (get_or l.words f 0);
}
