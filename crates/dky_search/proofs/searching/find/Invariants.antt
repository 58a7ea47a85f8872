use Rattle.std.proofs.Common.{◌≡◌, ℕ, ◌<◌, ◌≤◌}
use Rattle.scope_table.specs.Rule.{shown_at}
use Rattle.scope_table.specs.Seats.{view}
use Rattle.dky_search.proofs.Probes.{HasMet}
use Rattle.dky_search.proofs.searching.find.Given as goal

abbrev pub invariant-loop-distance : goal.invariant-loop-distance
invariant-loop-distance l = record {
  same : l.seat ≡ l.initial.seat;
  counted : l.initial.rows_loaded ≤ l.rows_loaded;
  met : (q : ℕ) → q < l.distance → HasMet l.width (shown_at (view l.initial.seat) l.scope).rows (shown_at (view l.initial.seat) l.scope).cells l.key q;
}
