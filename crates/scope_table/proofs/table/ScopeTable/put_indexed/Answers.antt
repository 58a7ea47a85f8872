use Rattle.std.proofs.Common.{◌∷◌, [], ◌++◌, ◌≡◌, ◌⊎◌, ℕ, ◌+◌, ◌<◌, List, length, sym, ap, ◌∙◌, subst, ⊎_elim, arith, length-append}
use Rattle.m2_base.specs.Keys.{row_key}
use Rattle.m2_base.specs.declared.rows.Row.{Row}
use Rattle.m2_base.specs.declared.rows.RowKey.{RowKey}
use Rattle.scope_table.specs.declared.view.About.{About}
use Rattle.scope_table.specs.declared.view.View.{View}
use Rattle.scope_table.specs.declared.table.TableSeat.{TableSeat}
use Rattle.scope_table.specs.Cells.{seed, HasNoCell, IsAmong, IsIndexed, IsFirstEmpty, IsFirstOf, IsFull}
use Rattle.scope_table.specs.Rows.{words_of, row_of, rows_of}
use Rattle.scope_table.specs.Rule.{shown_at, width, scopes}
use Rattle.scope_table.specs.Plays.{puts, marks, grown, CanMark}
use Rattle.scope_table.specs.Seats.{view}
use Rattle.scope_table.proofs.Rooms.{grown_length}
use Rattle.scope_table.proofs.Probes.{indexed_more, keyed_put, no_key, not_full, row-last, second_key}
use Rattle.scope_table.proofs.table.ScopeTable.put_indexed.Goals as goal

-- the ordinal of the next row has no cell yet
no_cell : (s : TableSeat) → HasNoCell (shown_at (view s) s.scope).cells (length (grown (view s) s.scope).rows)
no_cell s q e =
    let v = view s in let own = s.seated.own_cells q in let n = s.seated.waiting_is in let k = s.seated.shown_is in
    let len = grown_length v s.scope s.shown s.waiting s.closed s.seated in absurd (omega arith)

pub returns-in_default-clause-index : goal.returns-in_default-clause-index
returns-in_default-clause-index c =
    let a = c.args.self.now.table.shared.key in let st = c.args.seat.now in let v = view st in let w : ℕ = width a st.scope in let row = c.args.row.now in let rows = (grown v st.scope).rows in
    let cells : (shown_at (view c.put_row.new.seat) st.scope).cells ≡ (shown_at v st.scope).cells = ap (λ (u : View). (shown_at u st.scope).cells) c.put_row.ensures.put in
    subst (λ (z : List Row × List ℕ). IsIndexed w z.0 z.1) (λ i. (sym c.put_row.ensures.rows i, sym cells i))
    (indexed_more rows row w (shown_at v st.scope).cells (no_cell st) c.requires.index (no_key rows row (sym c.in_default.ensures)))

pub returns-in_default-first_empty-clause-index : goal.returns-in_default-first_empty-clause-index
returns-in_default-first_empty-clause-index c =
    let t = c.args.self.now in let a = t.table.shared.key in let st = c.args.seat.now in let v = view st in let j : ℕ = st.scope in let w : ℕ = width a j in let row = c.args.row.now in let rows = (grown v j).rows in let key = c.in-Some.key in
    let l = st.seated.there in let about = c.requires.table.1 in let l' : j < scopes a = subst (λ (b : About). j < scopes b) about l in let few = t.few j l' in let room = c.requires.room in
    let len = grown_length v j st.shown st.waiting st.closed st.seated in let n = st.seated.waiting_is in let k = st.seated.shown_is in
    let many : length (shown_at v j).cells ≡ w = (st.seated.rooms j l).many ∙ ap (λ (b : About). width b j) about in
    let seen : view c.first_empty.new.seat ≡ view c.put_row.new.seat = ap view c.in_default-first_empty.ensures.same in
    let all : (grown (view c.first_empty.new.seat) j).rows ≡ rows ++ row ∷ [] = ap (λ (u : View). (grown u j).rows) seen ∙ c.put_row.ensures.rows in
    let cells : (shown_at (view c.first_empty.new.seat) j).cells ≡ (shown_at v j).cells = ap (λ (u : View). (shown_at u j).cells) (seen ∙ c.put_row.ensures.put) in
    let met : IsFull w (seed key) (shown_at v j).cells ⊎ IsAmong key c.args.before.now =
    subst (λ (z : View × ℕ). IsFull (width a z.1) (seed key) (shown_at z.0 z.1).cells ⊎ IsAmong key c.args.before.now) (λ i. (c.put_row.ensures.put i, c.put_row.ensures.same.1 i)) c.in_default-first_empty.ensures.cell in
    let second : (x : RowKey) → IsFirstOf x (rows ++ row ∷ []) (length rows) → ⊥ =
    (λ x f. ⊎_elim
    (λ (full : IsFull w (seed key) (shown_at v j).cells). not_full w (seed key) (st.shown + st.waiting) (shown_at v j).cells many (omega arith) (st.seated.rooms j l).one (λ q. let o = st.seated.own_cells q in omega arith) full)
    (λ (among : IsAmong key c.args.before.now). second_key (shown_at v j).rows (rows_of v.put) c.args.before.now row key c.requires.before among (sym c.in-Some.ensures) x f) met) in
    subst (λ (z : List Row × List ℕ). IsIndexed w z.0 z.1) (λ i. (sym all i, sym cells i)) (indexed_more rows row w (shown_at v j).cells (no_cell st) c.requires.index second)

pub put_cell-requires-clause-row : goal.put_cell-requires-clause-row
put_cell-requires-clause-row c =
    let a = c.args.self.now.table.shared.key in let st = c.args.seat.now in let v = view st in let row = c.args.row.now in let key = c.in-Some.key in let same = c.in-Some-first_empty.ensures.same in let j : ℕ = st.scope in let o : ℕ = st.shown + st.waiting in
    let u : View = puts v (words_of row) in let seen : view c.first_empty.new.seat ≡ u = ap view same ∙ c.put_row.ensures.put in let at : c.first_empty.new.seat.scope ≡ j = ap (λ (s : TableSeat). s.scope) same ∙ c.put_row.ensures.same.1 in
    let more : (grown u j).rows ≡ (grown v j).rows ++ row ∷ [] = ap (λ (x : View). (grown x j).rows) (sym c.put_row.ensures.put) ∙ c.put_row.ensures.rows in
    let len = grown_length v j st.shown st.waiting st.closed st.seated in let n = st.seated.waiting_is in let k = st.seated.shown_is in
    let longer : length (grown u j).rows ≡ o + 1 = ap length more ∙ (length-append (grown v j).rows (row ∷ []) ∙ ap (λ (m : ℕ). m + 1) len) in
    let row_is : row_of (grown u j).rows o ≡ row = (λ i. row_of (more i) (sym len i)) ∙ row-last (grown v j).rows row in
    let first : IsFirstEmpty (width a j) (seed key) c.in-Some-first_empty.cell (shown_at u j).cells = subst (λ (z : View × ℕ). IsFirstEmpty (width a z.1) (seed key) c.in-Some-first_empty.cell (shown_at z.0 z.1).cells) (λ i. (c.put_row.ensures.put i, c.put_row.ensures.same.1 i)) c.in-Some-first_empty.ensures.cell in
    subst (λ (z : View × ℕ). CanMark (width a z.1) z.0 z.1 c.in-Some-first_empty.cell o) (λ i. (sym seen i, sym at i)) record {
      hidden = omega arith;
      put = omega arith;
      key = key;
      keyed = ap row_key row_is ∙ sym c.in-Some.ensures;
      first = first;
      new = λ q e. let own = st.seated.own_cells q in absurd (omega arith);
    }

pub returns-clause-index : goal.returns-clause-index
returns-clause-index c =
    let t = c.args.self.now in let a = t.table.shared.key in let st = c.args.seat.now in let v = view st in let row = c.args.row.now in let key = c.in-Some.key in let cell = c.in-Some-first_empty.cell in let same = c.in-Some-first_empty.ensures.same in let j : ℕ = st.scope in let wide = st.seated.wide in let l = st.seated.there in
    let u : View = puts v (words_of row) in let seen : view c.first_empty.new.seat ≡ u = ap view same ∙ c.put_row.ensures.put in let at : c.first_empty.new.seat.scope ≡ j = ap (λ (s : TableSeat). s.scope) same ∙ c.put_row.ensures.same.1 in
    let more : (grown u j).rows ≡ (grown v j).rows ++ row ∷ [] = ap (λ (x : View). (grown x j).rows) (sym c.put_row.ensures.put) ∙ c.put_row.ensures.rows in
    let len = grown_length v j st.shown st.waiting st.closed st.seated in
    let whole : view c.put_cell.new.seat ≡ marks u j cell (length (grown v j).rows + 1) = c.put_cell.ensures.marked ∙ (λ i. marks (seen i) (at i) cell (sym len i + 1)) in
    let many : length (shown_at v j).cells ≡ width a j = (st.seated.rooms j l).many ∙ ap (λ (b : About). width b j) c.requires.table.1 in
    let first : IsFirstEmpty (width a j) (seed key) cell (shown_at u j).cells = subst (λ (z : View × ℕ). IsFirstEmpty (width a z.1) (seed key) cell (shown_at z.0 z.1).cells) (λ i. (c.put_row.ensures.put i, c.put_row.ensures.same.1 i)) c.in-Some-first_empty.ensures.cell in
    let l' : j < scopes a = subst (λ (b : About). j < scopes b) c.requires.table.1 l in let behind = t.behind j l' in
    subst (λ (x : View). IsIndexed (width a j) (grown x j).rows (grown x j).cells) (sym whole)
    (keyed_put u j cell (width a j) (grown v j).rows row key more (omega arith) many (no_cell st) (sym c.in-Some.ensures) c.requires.index first (omega arith))
