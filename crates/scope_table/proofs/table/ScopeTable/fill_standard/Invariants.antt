use Rattle.std.proofs.Common.{◌≡◌, ◌≢◌, ℕ, false, [], take}
use Rattle.m2_base.specs.Standard.{standard_rows}
use Rattle.scope_table.specs.Cells.{IsIndexed}
use Rattle.scope_table.specs.Rule.{shown_at, width}
use Rattle.scope_table.specs.Plays.{grown}
use Rattle.scope_table.specs.Seats.{view, key_of, IsSameSeat}
use Rattle.scope_table.proofs.table.ScopeTable.fill_standard.Given as goal

abbrev pub invariant-loop-row : goal.invariant-loop-row
invariant-loop-row l = record {
  same : IsSameSeat l.initial.seat l.seat;
  about : (view l.seat).about ≡ (view l.initial.seat).about;
  rights : (view l.seat).rights ≡ (view l.initial.seat).rights;
  loads : (view l.seat).loads ≡ [];
  looks : (view l.seat).looks ≡ [];
  none : (shown_at (view l.seat) 0).rows ≡ [];
  mark : (shown_at (view l.seat) 0).complete ≡ false;
  rows : (grown (view l.seat) 0).rows ≡ take l.row-index standard_rows;
  index : IsIndexed (width (key_of l.self) 0) (grown (view l.seat) 0).rows (grown (view l.seat) 0).cells;
  others : (j : ℕ) → j ≢ 0 → shown_at (view l.seat) j ≡ shown_at (view l.initial.seat) j;
}
