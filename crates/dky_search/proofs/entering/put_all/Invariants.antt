use Rattle.std.proofs.Common.{◌≡◌, ◌≢◌, ℕ, ◌++◌, take}
use Rattle.scope_table.specs.Cells.{IsIndexed}
use Rattle.scope_table.specs.Plays.{grown}
use Rattle.scope_table.specs.Rule.{shown_at, width}
use Rattle.scope_table.specs.Seats.{key_of, scope_of, view, IsSameSeat}
use Rattle.dky_search.proofs.entering.put_all.Given as goal

abbrev pub invariant-loop-at : goal.invariant-loop-at
invariant-loop-at l = record {
  same : IsSameSeat l.initial.seat l.seat;
  about : (view l.seat).about ≡ (view l.initial.seat).about;
  rows : (shown_at (view l.seat) (scope_of l.initial.seat)).rows ≡ (shown_at (view l.initial.seat) (scope_of l.initial.seat)).rows;
  mark : (shown_at (view l.seat) (scope_of l.initial.seat)).complete ≡ (shown_at (view l.initial.seat) (scope_of l.initial.seat)).complete;
  others : (j : ℕ) → j ≢ scope_of l.initial.seat → shown_at (view l.seat) j ≡ shown_at (view l.initial.seat) j;
  loads : (view l.seat).loads ≡ (view l.initial.seat).loads;
  looks : (view l.seat).looks ≡ (view l.initial.seat).looks;
  longer : (grown (view l.seat) (scope_of l.initial.seat)).rows ≡ (shown_at (view l.initial.seat) (scope_of l.initial.seat)).rows ++ take l.at l.rows;
  index : IsIndexed (width (key_of l.fn.table) (scope_of l.initial.seat)) (grown (view l.seat) (scope_of l.initial.seat)).rows (grown (view l.seat) (scope_of l.initial.seat)).cells;
}
