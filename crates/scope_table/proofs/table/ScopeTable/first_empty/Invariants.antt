use Rattle.std.proofs.Common.{◌≡◌, ◌≢◌, ℕ, ◌<◌, get_or}
use Rattle.scope_table.specs.Rule.{shown_at}
use Rattle.scope_table.specs.Cells.{probe, seed}
use Rattle.scope_table.specs.Seats.{view}
use Rattle.scope_table.proofs.table.ScopeTable.first_empty.Given as goal

abbrev pub invariant-loop-distance : goal.invariant-loop-distance
invariant-loop-distance l = (l.seat ≡ l.initial.seat) × ((q : ℕ) → q < l.distance → get_or (shown_at (view l.initial.seat) l.initial.seat.scope).cells (probe l.width (seed l.fn.key) q) 0 ≢ 0)
