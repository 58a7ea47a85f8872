use Rattle.std.proofs.Common.{◌≡◌, ℕ, ◌+◌, true, false, List, [], ◌∷◌, ◌++◌, length, slice_get, sym, ap, ◌∙◌, subst, arith, zero-add}
use Rattle.m2_base.specs.declared.rows.Row.{Row}
use Rattle.m2_base.specs.Rows.{at_place, IsWellFormed}
use Rattle.m2_base.specs.Standard.{standard_rows}
use Rattle.m2_base.proofs.StandardLaws.{IsWellFormed-standard}
use Rattle.scope_table.specs.Cells.{IsIndexed}
use Rattle.scope_table.specs.Rows.{row_of, rows_of}
use Rattle.scope_table.specs.Rule.{shown_at, width, texts_in, IsFair}
use Rattle.scope_table.specs.Plays.{grown, HasPut}
use Rattle.scope_table.specs.Seats.{view, key_of}
use Rattle.scope_table.specs.declared.view.View.{View}
use Rattle.scope_table.specs.declared.view.Shown.{Shown}
use Rattle.scope_table.proofs.Rooms.{seen_same}
use Rattle.scope_table.proofs.Opening.{standard_fair, taken_all, taken_more}
use Rattle.scope_table.proofs.table.ScopeTable.fill_standard.Goals as goal

pub put_indexed-requires-clause-index : goal.put_indexed-requires-clause-index
put_indexed-requires-clause-index c =
    let inv = c.loop-row.invariant in let s = c.loop-row.seat in
    subst (λ (z : ℕ). IsIndexed (width (key_of c.args.self.now) z) (grown (view s) z).rows (grown (view s) z).cells) (sym (inv.same.1 ∙ c.requires.scope)) inv.index

pub show-requires-clause-index : goal.show-requires-clause-index
show-requires-clause-index c =
    let inv = c.loop-row.invariant in let s = c.loop-row.seat in
    subst (λ (z : ℕ). IsIndexed (width (key_of c.args.self.now) z) (grown (view s) z).rows (grown (view s) z).cells) (sym (inv.same.1 ∙ c.requires.scope)) inv.index

pub show-requires-clause-fair : goal.show-requires-clause-fair
show-requires-clause-fair c =
    let inv = c.loop-row.invariant in let s = c.loop-row.seat in let a = key_of c.args.self.now in let test = c.loop-row-test.false in let many = ap length c.standard_rows-rows.ensures in
    let all : (grown (view s) 0).rows ≡ standard_rows = inv.rows ∙ taken_all c.loop-row.row-index standard_rows (omega arith) in
    subst (λ (z : ℕ). IsFair a z (grown (view s) z).rows false) (sym (inv.same.1 ∙ c.requires.scope)) (subst (λ (rows : List Row). IsFair a 0 rows false) (sym all) (standard_fair a false))

pub show-requires-clause-formed : goal.show-requires-clause-formed
show-requires-clause-formed c k r e =
    let inv = c.loop-row.invariant in let s = c.loop-row.seat in let a = key_of c.args.self.now in let test = c.loop-row-test.false in let many = ap length c.standard_rows-rows.ensures in
    let all : (grown (view s) 0).rows ≡ standard_rows = inv.rows ∙ taken_all c.loop-row.row-index standard_rows (omega arith) in
    let put : rows_of (view s).put ≡ standard_rows = ap (λ (rows : List Row). rows ++ rows_of (view s).put) (sym inv.none) ∙ all in
    let at : s.scope ≡ 0 = inv.same.1 ∙ c.requires.scope in
    let place : k ≡ length (shown_at (view s) s.scope).rows + k = sym (zero-add k) ∙ ap (λ (rows : List Row). length rows + k) (sym (ap (λ (z : ℕ). (shown_at (view s) z).rows) at ∙ inv.none)) in
    subst (λ (z : ℕ × ℕ). IsWellFormed (length (texts_in a).names) (at_place z.0 z.1) r) (λ i. (sym at i, place i)) (IsWellFormed-standard (texts_in a).names c.requires.unit.standard k r (ap (λ (rows : List Row). slice_get rows k) (sym put) ∙ e))

pub seal-requires-clause-fair : goal.seal-requires-clause-fair
seal-requires-clause-fair c =
    let inv = c.loop-row.invariant in let s = c.loop-row.seat in let v = view s in let a = key_of c.args.self.now in let test = c.loop-row-test.false in let many = ap length c.standard_rows-rows.ensures in
    let all : (grown v 0).rows ≡ standard_rows = inv.rows ∙ taken_all c.loop-row.row-index standard_rows (omega arith) in
    let at : s.scope ≡ 0 = inv.same.1 ∙ c.requires.scope in let at' : c.show.new.seat.scope ≡ s.scope = c.show.ensures.same.1 in let wide = s.seated.wide in let l = s.seated.there in
    let now : (shown_at (view c.show.new.seat) s.scope).rows ≡ (grown v s.scope).rows = ap (λ (w : View). (shown_at w s.scope).rows) c.show.ensures.shown ∙ ap (λ (t : Shown). t.rows) (seen_same v.seen s.scope (grown v s.scope) (omega arith)) in
    let rows : (shown_at (view c.show.new.seat) c.show.new.seat.scope).rows ≡ standard_rows = ap (λ (z : ℕ). (shown_at (view c.show.new.seat) z).rows) at' ∙ (now ∙ (ap (λ (z : ℕ). (grown v z).rows) at ∙ all)) in
    subst (λ (z : ℕ × List Row). IsFair a z.0 z.1 true) (λ i. (sym (at' ∙ at) i, sym rows i)) (standard_fair a true)

pub loop-row-preserved : goal.loop-row-preserved
loop-row-preserved c =
    let inv = c.loop-row.invariant in let s = c.loop-row.seat in let v = view s in let w = view c.put_indexed.new.seat in let a = key_of c.args.self.now in let k = c.loop-row.row-index in let done = c.put_indexed.ensures in
    let at : s.scope ≡ 0 = inv.same.1 ∙ c.requires.scope in let test = c.loop-row-test.true in let many = ap length c.standard_rows-rows.ensures in
    let put : HasPut v w 0 (row_of c.standard_rows-rows.result k) = subst (λ (z : ℕ). HasPut v w z (row_of c.standard_rows-rows.result k)) at done.put in
    let rows : (grown w 0).rows ≡ (grown v 0).rows ++ row_of c.standard_rows-rows.result k ∷ [] = subst (λ (z : ℕ). (grown w z).rows ≡ (grown v z).rows ++ row_of c.standard_rows-rows.result k ∷ []) at done.rows in record {
      same = (done.same.0 ∙ inv.same.0, done.same.1 ∙ inv.same.1);
      about = put.about ∙ inv.about;
      rights = put.rights ∙ inv.rights;
      loads = put.loads ∙ inv.loads;
      looks = put.looks ∙ inv.looks;
      none = put.rows ∙ inv.none;
      mark = put.mark ∙ inv.mark;
      rows = rows ∙ ((λ i. inv.rows i ++ row_of (c.standard_rows-rows.ensures i) k ∷ []) ∙ taken_more k standard_rows (omega arith));
      index = subst (λ (z : ℕ). IsIndexed (width a z) (grown w z).rows (grown w z).cells) at done.index;
      others = λ j n. put.others j n ∙ inv.others j n;
    }
