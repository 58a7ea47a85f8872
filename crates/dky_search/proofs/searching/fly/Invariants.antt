use Rattle.std.proofs.Common.{◌≡◌, ◌-◌, ◌≤◌, length}
use Rattle.scope_table.specs.Seats.{key_of, scope_of, view, IsSameSeat}
use Rattle.dky_search.specs.Flying.{IsFlown}
use Rattle.dky_search.proofs.searching.fly.Given as goal

abbrev pub invariant-loop-scope : goal.invariant-loop-scope
invariant-loop-scope l = record {
  same : IsSameSeat l.initial.seat l.seat;
  chain : l.flight.chain ≡ l.initial.flight.chain;
  name : l.flight.name ≡ l.initial.flight.name;
  flown : IsFlown (key_of l.fn.table) (scope_of l.initial.seat) (view l.initial.seat) (view l.seat) l.flight;
  counted : l.initial.rows_loaded ≤ l.rows_loaded;
}

abbrev pub decreases-loop-scope : goal.decreases-loop-scope
decreases-loop-scope l = length l.flight.chain - length l.flight.loads
