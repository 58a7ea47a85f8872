use Rattle.std.proofs.Common.{◌≡◌, ◌≢◌, ◌<◌, ◌≤◌, ℕ, ◌+◌, List, get_or, inl, inr, sym, ap, ◌∙◌, subst, refl, arith}
use mathlib.Core.Logic.{dite}
use native.Mathlib.Decide.{ℕ_discrete}
use Rattle.scope_table.specs.declared.table.TableSeat.{TableSeat}
use Rattle.scope_table.specs.Rule.{shown_at}
use Rattle.scope_table.specs.Cells.{probe, seed, IsFirstEmpty, IsFull}
use Rattle.scope_table.specs.Seats.{view, IsOf}
use Rattle.scope_table.proofs.table.ScopeTable.first_empty.Goals as goal

-- the cells that are probed are those of the scope
cell_within : (w v c x d : ℕ) → 0 < w → w ≡ v → c ≡ probe w x d → c < v
cell_within w v c x d some is at = subst (λ n. c < n) is (subst (λ n. n < w) (sym at) (omega arith))

-- the search stopped at the first empty cell
first_here : (w v d c x s : ℕ) (cs : List ℕ) → w ≡ v → d < w → s ≡ x → c ≡ probe w s d → get_or cs c 0 ≡ 0
    → ((q : ℕ) → q < d → get_or cs (probe w x q) 0 ≢ 0) → IsFirstEmpty v x c cs
first_here w v d c x s cs is less same at empty run =
    subst (λ n. IsFirstEmpty n x c cs) is record { distance = d; less = less; is = at ∙ ap (λ z. probe w z d) same; empty = empty; run = run }

-- the search came around
all_full : (w v d x : ℕ) (cs : List ℕ) → w ≡ v → w ≤ d → ((q : ℕ) → q < d → get_or cs (probe w x q) 0 ≢ 0) → IsFull v x cs
all_full w v d x cs is all run = subst (λ n. IsFull n x cs) is (λ e l. run e (omega arith))

pub loop-distance-preserved : goal.loop-distance-preserved
loop-distance-preserved c =
    let st = c.args.seat.now in let w = c.width-width.result in let inv = c.loop-distance.invariant in let m = c.loop-distance.distance in let x = seed c.args.key in
    let at : c.probe-cell.result ≡ probe w x m = c.probe-cell.ensures ∙ ap (λ (z : ℕ). probe w z m) c.seed-seed.ensures in
    let full : get_or (shown_at (view st) st.scope).cells (probe w x m) 0 ≡ c.in-Some.ordinal + 1 = subst (λ (s : TableSeat). st.scope ≡ s.scope → get_or (shown_at (view s) st.scope).cells (probe w x m) 0 ≡ c.in-Some.ordinal + 1) inv.0 (subst (λ (z : ℕ). st.scope ≡ c.loop-distance.seat.scope → get_or (shown_at (view c.loop-distance.seat) st.scope).cells z 0 ≡ c.in-Some.ordinal + 1) at c.in-Some.ensures.mine) refl in (
      c.in-Some.ensures.same ∙ inv.0,
      λ q lq z. dite (ℕ_discrete q m) (λ e. let y : get_or (shown_at (view st) st.scope).cells (probe w x m) 0 ≡ 0 = ap (λ (k : ℕ). get_or (shown_at (view st) st.scope).cells (probe w x k) 0) (sym e) ∙ z in absurd (omega arith)) (λ n. inv.1 q (omega arith) z),
    )

pub loop-distance-init : goal.loop-distance-init
loop-distance-init c = (refl, λ q l z. omega arith)

pub probe-cell-requires : goal.probe-cell-requires
probe-cell-requires c = (c.width-width.ensures.1, c.width-width.ensures.2, c.loop-distance-test.true)

pub load_cell-requires-clause-table : goal.load_cell-requires-clause-table
load_cell-requires-clause-table c = subst (IsOf c.args.self.now) (sym c.loop-distance.invariant.0) c.requires.table

pub load_cell-requires-clause-cell : goal.load_cell-requires-clause-cell
load_cell-requires-clause-cell c =
    cell_within _ _ _ _ c.loop-distance.distance c.width-width.ensures.1 c.width-width.ensures.0 c.probe-cell.ensures

pub returns-in_default-clause-same : goal.returns-in_default-clause-same
returns-in_default-clause-same c = c.load_cell.ensures.same ∙ c.loop-distance.invariant.0

pub returns-in_default-clause-cell : goal.returns-in_default-clause-cell
returns-in_default-clause-cell c =
    let st = c.args.seat.now in let inv = c.loop-distance.invariant in let cell = c.probe-cell.result in
    first_here _ _ c.loop-distance.distance _ _ _ (shown_at (view st) st.scope).cells c.width-width.ensures.0 c.loop-distance-test.true c.seed-seed.ensures
    c.probe-cell.ensures
    (subst (λ (s : TableSeat). st.scope ≡ s.scope → get_or (shown_at (view s) st.scope).cells cell 0 ≡ 0) inv.0 c.in_default.ensures.mine refl) inv.1

pub returns-then-is_row_of-clause-same : goal.returns-then-is_row_of-clause-same
returns-then-is_row_of-clause-same c = c.load_cell.ensures.same ∙ c.loop-distance.invariant.0

pub returns-then-is_row_of-clause-cell : goal.returns-then-is_row_of-clause-cell
returns-then-is_row_of-clause-cell c = inr (c.is_row_of.ensures c.if-is_row_of.true)

pub returns-clause-same : goal.returns-clause-same
returns-clause-same c = c.loop-distance.invariant.0

pub returns-clause-cell : goal.returns-clause-cell
returns-clause-cell c = inl (all_full _ _ _ _ _ c.width-width.ensures.0 c.loop-distance-test.false c.loop-distance.invariant.1)
