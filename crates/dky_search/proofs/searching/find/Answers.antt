use Rattle.std.proofs.Common.{◌≡◌, ◌≢◌, ℕ, ◌+◌, ◌<◌, ◌≤◌, get_or, length, sym, ap, ◌∙◌, subst, arith}
use Rattle.m2_base.specs.Keys.{row_key}
use Rattle.m2_base.specs.declared.rows.Row.{Row}
use Rattle.m2_base.proofs.KeyLaws.{keyed_is, unkeyed}
use Rattle.scope_core.specs.Flights.{found_at}
use Rattle.scope_table.specs.Cells.{probe, seed, IsIndexed}
use Rattle.scope_table.specs.Rows.{row_of}
use Rattle.scope_table.specs.Rule.{scopes, shown_at, IsGood}
use Rattle.scope_table.specs.Seats.{key_of, view, IsOf, IsWhole}
use Rattle.scope_table.specs.declared.table.ScopeTable.{ScopeTable}
use Rattle.scope_table.specs.declared.table.TableSeat.{TableSeat}
use Rattle.scope_table.specs.declared.view.About.{About}
use Rattle.dky_search.proofs.Probes.{hit_first, met_is, more_met, probed}
use Rattle.dky_search.proofs.searching.find.Goals.{then-ordinal-count+else-has_key, else-ordinal-count}
use Rattle.dky_search.proofs.searching.find.Goals as goal

pub loop-distance-preserved : goal.loop-distance-preserved
loop-distance-preserved c =
    let s = c.args.head.scope in let t = shown_at (view c.args.seat.now) s in let w = c.width-width.result in let k = c.args.key in let m = c.loop-distance.distance in let o = c.in-Some.ordinal in let inv = c.loop-distance.invariant in
    let at : c.probe-cell.result ≡ probe w (seed k) m = c.probe-cell.ensures ∙ ap (λ (z : ℕ). probe w z m) c.seed-seed.ensures in
    let found : get_or t.cells (probe w (seed k) m) 0 ≢ 0 → get_or t.cells (probe w (seed k) m) 0 ≡ o + 1 =
    subst (λ (z : TableSeat × ℕ). get_or (shown_at (view z.0) s).cells z.1 0 ≢ 0 → get_or (shown_at (view z.0) s).cells z.1 0 ≡ o + 1) (λ i. (inv.same i, at i)) c.in-Some.ensures.found in
    let here = c.in-Some.ensures.same ∙ inv.same in elim c.if-ordinal-count.branch [
      | then-ordinal-count+else-has_key b ↦ record {
        same = b.seat-is ∙ (b.load_row-row.ensures.same ∙ here);
        counted = (let n = b.load_row-row.ensures.more in let k = inv.counted in subst (λ (z : ℕ). c.args.rows_loaded.now ≤ z) (sym b.rows_loaded-is) (omega arith));
        met = more_met w k m t.rows t.cells inv.met (met_is w k m o t.rows t.cells found
            (λ l e. unkeyed k (row_key b.load_row-row.result) (sym b.has_key.ensures ∙ b.if-has_key.false) (ap row_key (b.load_row-row.ensures.row ∙ ap (λ (z : TableSeat). row_of (shown_at (view z) s).rows o) here) ∙ e)));
      }
      | else-ordinal-count b ↦ record {
        same = b.seat-is ∙ here;
        counted = subst (λ (z : ℕ). c.args.rows_loaded.now ≤ z) (sym b.rows_loaded-is) inv.counted;
        met = more_met w k m t.rows t.cells inv.met (met_is w k m o t.rows t.cells found (λ l. let f = b.if-ordinal-count.false in let n = c.requires.count in absurd (omega arith)));
      }
    ]

-- the index and the rows that the seat has seen of a scope
good_at : (t : ScopeTable) (s : TableSeat) (j : ℕ) → IsOf t s → j < scopes (key_of t) → IsWhole s → IsGood (key_of t) j (shown_at (view s) j)
good_at t s j is there whole = subst (λ (b : About). IsGood b j (shown_at (view s) j)) is.1 (whole.sound j (subst (λ (b : About). j < scopes b) (sym is.1) there))

pub returns-in_default-clause-found : goal.returns-in_default-clause-found
returns-in_default-clause-found c =
    let st = c.args.seat.now in let s = c.args.head.scope in let t = shown_at (view st) s in let w = c.width-width.result in let k = c.args.key in let m = c.loop-distance.distance in let inv = c.loop-distance.invariant in
    let good = good_at c.args.table.now st s c.requires.table c.requires.scope c.scope-whole.ensures.whole in
    let index : IsIndexed w t.rows t.cells = subst (λ (n : ℕ). IsIndexed n t.rows t.cells) (sym c.width-width.ensures.0) good.index in
    let at : c.probe-cell.result ≡ probe w (seed k) m = c.probe-cell.ensures ∙ ap (λ (z : ℕ). probe w z m) c.seed-seed.ensures in
    let empty : get_or t.cells (probe w (seed k) m) 0 ≡ 0 = subst (λ (z : TableSeat × ℕ). get_or (shown_at (view z.0) s).cells z.1 0 ≡ 0) (λ i. (inv.same i, at i)) c.in_default.ensures.found in
    sym (ap (found_at s) (probed w k m t.rows t.cells index inv.met (λ _. empty)))

pub returns-then-has_key-clause-found : goal.returns-then-has_key-clause-found
returns-then-has_key-clause-found c =
    let st = c.args.seat.now in let s = c.args.head.scope in let t = shown_at (view st) s in let w = c.width-width.result in let k = c.args.key in let m = c.loop-distance.distance in let o = c.in-Some.ordinal in let inv = c.loop-distance.invariant in
    let row = c.load_row-row.result in
    let good = good_at c.args.table.now st s c.requires.table c.requires.scope c.scope-whole.ensures.whole in
    let index : IsIndexed w t.rows t.cells = subst (λ (n : ℕ). IsIndexed n t.rows t.cells) (sym c.width-width.ensures.0) good.index in
    let at : c.probe-cell.result ≡ probe w (seed k) m = c.probe-cell.ensures ∙ ap (λ (z : ℕ). probe w z m) c.seed-seed.ensures in
    let found : get_or t.cells (probe w (seed k) m) 0 ≢ 0 → get_or t.cells (probe w (seed k) m) 0 ≡ o + 1 =
    subst (λ (z : TableSeat × ℕ). get_or (shown_at (view z.0) s).cells z.1 0 ≢ 0 → get_or (shown_at (view z.0) s).cells z.1 0 ≡ o + 1) (λ i. (inv.same i, at i)) c.in-Some.ensures.found in
    let less : o < length t.rows = subst (λ (n : ℕ). o < n) c.requires.count c.if-ordinal-count.true in
    let is : row ≡ row_of t.rows o = c.load_row-row.ensures.row ∙ ap (λ (z : TableSeat). row_of (shown_at (view z) s).rows o) (c.in-Some.ensures.same ∙ inv.same) in
    sym (ap (found_at s) (hit_first w k m t.rows t.cells index inv.met o row c.loop-distance-test.true found less is (keyed_is k (row_key row) (sym c.has_key.ensures ∙ c.if-has_key.true))))

pub returns-clause-found : goal.returns-clause-found
returns-clause-found c =
    let st = c.args.seat.now in let s = c.args.head.scope in let t = shown_at (view st) s in let w = c.width-width.result in let k = c.args.key in let m = c.loop-distance.distance in let inv = c.loop-distance.invariant in
    let good = good_at c.args.table.now st s c.requires.table c.requires.scope c.scope-whole.ensures.whole in
    let index : IsIndexed w t.rows t.cells = subst (λ (n : ℕ). IsIndexed n t.rows t.cells) (sym c.width-width.ensures.0) good.index in
    let round = c.loop-distance-test.false in
    sym (ap (found_at s) (probed w k m t.rows t.cells index inv.met (λ l. absurd (omega arith))))
