use Rattle.std.proofs.Common.{◌≡◌, ℕ, ◌+◌, ◌*◌, ◌<◌, ◌≤◌, false, List, [], ◌∷◌, ◌++◌, length, take, slice_get, sym, refl, ap, ◌∙◌, subst, arith, length-append, append-nil}
use Rattle.std.proofs.lemmas.Grind.{common_steps}
use Rattle.m2_base.specs.Rows.{at_place, IsWellFormed}
use Rattle.m2_base.specs.declared.rows.Row.{Row}
use Rattle.scope_table.specs.Cells.{IsIndexed}
use Rattle.scope_table.specs.Plays.{grown, HasPut, HasRoom}
use Rattle.scope_table.specs.Rows.{row_of, rows_of}
use Rattle.scope_table.specs.Rule.{scopes, base, mid, shown_at, width, texts_in, IsFair, IsGood}
use Rattle.scope_table.specs.Seats.{key_of, scope_of, view}
use Rattle.scope_table.specs.declared.view.About.{About}
use Rattle.scope_table.specs.declared.view.Shown.{Shown}
use Rattle.scope_table.specs.declared.view.View.{View}
use Rattle.scope_table.proofs.Opening.{taken_all, taken_more}
use Rattle.dky_search.proofs.Enters.{after_others, after_show, behind_same, fair_entered, room_left}
use Rattle.dky_search.proofs.entering.put_all.Goals as goal

pub loop-at-init : goal.loop-at-init
loop-at-init c =
    let s = c.args.seat.now in let own = scope_of s in let v = view s in let a = key_of c.args.table.now in let whole = c.scope-whole.ensures.whole in
    let none : (grown v own).rows ≡ (shown_at v own).rows ++ [] = ap (λ (ws : List ℕ). (shown_at v own).rows ++ rows_of ws) c.requires.none in
    let good : IsGood a own (shown_at v own) = subst (λ (b : About). IsGood b own (shown_at v own)) c.requires.table.1 (whole.sound own whole.there) in record {
      same = (refl, refl);
      about = refl;
      rows = refl;
      mark = refl;
      others = λ j n. refl;
      loads = refl;
      looks = refl;
      longer = none ∙ ap (λ (rows : List Row). (shown_at v own).rows ++ rows) (sym (take_none c.args.rows.now));
      index = subst (λ (rows : List Row). IsIndexed (width a own) rows (shown_at v own).cells) (sym (none ∙ append-nil (shown_at v own).rows)) good.index;
    }
  where
    take_none : (rows : List Row) → take 0 rows ≡ []
    take_none [] = refl
    take_none (r ∷ rows) = refl

pub put_indexed-requires-clause-before : goal.put_indexed-requires-clause-before
put_indexed-requires-clause-before c =
    let inv = c.loop-at.invariant in let v = view c.args.seat.now in let own = scope_of c.args.seat.now in let w = view c.loop-at.seat in (
      [],
      append-nil (take c.loop-at.at c.args.rows.now)
          ∙ sym (behind_same (shown_at v own).rows (rows_of w.put) (take c.loop-at.at c.args.rows.now) (ap (λ (rows : List Row). rows ++ rows_of w.put) (sym inv.rows) ∙ inv.longer)),
    )

pub put_indexed-requires-clause-index : goal.put_indexed-requires-clause-index
put_indexed-requires-clause-index c =
    let inv = c.loop-at.invariant in let s = c.loop-at.seat in
    subst (λ (z : ℕ). IsIndexed (width (key_of c.args.table.now) z) (grown (view s) z).rows (grown (view s) z).cells) (sym inv.same.1) inv.index

pub put_indexed-requires-clause-room : goal.put_indexed-requires-clause-room
put_indexed-requires-clause-room c =
    let inv = c.loop-at.invariant in let s = c.loop-at.seat in let test = c.loop-at-test.true in
    let v = view c.args.seat.now in let own = scope_of c.args.seat.now in let a = key_of c.args.table.now in let whole = c.scope-whole.ensures.whole in
    let n = length (shown_at v own).rows in let k = c.loop-at.at in
    let there : own < scopes a = subst (λ (b : About). own < scopes b) c.requires.table.1 whole.there in
    let up : base a own ≤ mid a own = subst (λ (b : About). base b own ≤ mid b own) c.requires.table.1 (let r = (whole.sound own whole.there).room in omega arith) in
    let taken : length (take k c.args.rows.now) ≡ k = grind (arith, common_steps) in
    let len : length (grown (view s) own).rows ≡ n + k = ap length inv.longer ∙ (length-append (shown_at v own).rows (take k c.args.rows.now) ∙ ap (λ (m : ℕ). n + m) taken) in
    let fits : base a own + 8 * (n + k) + 8 ≤ mid a own = room_left a own n k (length c.args.rows.now) there up c.requires.can.room test in
    subst (HasRoom a (view s)) (sym inv.same.1) (omega (arith, len, fits))

pub show-requires-clause-index : goal.show-requires-clause-index
show-requires-clause-index c =
    let inv = c.loop-at.invariant in let s = c.loop-at.seat in
    subst (λ (z : ℕ). IsIndexed (width (key_of c.args.table.now) z) (grown (view s) z).rows (grown (view s) z).cells) (sym inv.same.1) inv.index

pub show-requires-clause-fair : goal.show-requires-clause-fair
show-requires-clause-fair c =
    let inv = c.loop-at.invariant in let s = c.loop-at.seat in let test = c.loop-at-test.false in
    let v = view c.args.seat.now in let own = scope_of c.args.seat.now in let a = key_of c.args.table.now in
    let all : (grown (view s) own).rows ≡ (shown_at v own).rows ++ c.args.rows.now = inv.longer ∙ ap (λ (rows : List Row). (shown_at v own).rows ++ rows) (taken_all c.loop-at.at c.args.rows.now test) in
    subst (λ (z : ℕ). IsFair a z (grown (view s) z).rows false) (sym inv.same.1) (fair_entered a v own c.args.rows.now (grown (view s) own).rows c.requires.can all)

pub show-requires-clause-formed : goal.show-requires-clause-formed
show-requires-clause-formed c k r e =
    let inv = c.loop-at.invariant in let s = c.loop-at.seat in let test = c.loop-at-test.false in
    let v = view c.args.seat.now in let own = scope_of c.args.seat.now in let a = key_of c.args.table.now in
    let put : rows_of (view s).put ≡ c.args.rows.now =
    behind_same (shown_at v own).rows (rows_of (view s).put) c.args.rows.now (ap (λ (rows : List Row). rows ++ rows_of (view s).put) (sym inv.rows) ∙ (inv.longer ∙ ap (λ (rows : List Row). (shown_at v own).rows ++ rows) (taken_all c.loop-at.at c.args.rows.now test))) in
    let count : length (shown_at (view s) (scope_of s)).rows ≡ length (shown_at v own).rows = ap (λ (z : ℕ). length (shown_at (view s) z).rows) inv.same.1 ∙ ap (λ (rows : List Row). length rows) inv.rows in
    subst (λ (z : ℕ × ℕ). IsWellFormed (length (texts_in a).names) (at_place z.0 (z.1 + k)) r) (λ i. (sym inv.same.1 i, sym count i)) (c.requires.can.formed k r (ap (λ (rows : List Row). slice_get rows k) (sym put) ∙ e))

pub loop-at-preserved : goal.loop-at-preserved
loop-at-preserved c =
    let inv = c.loop-at.invariant in let s = c.loop-at.seat in let v = view s in let w = view c.put_indexed.new.seat in let a = key_of c.args.table.now in let k = c.loop-at.at in let done = c.put_indexed.ensures in
    let own = scope_of c.args.seat.now in let v0 = view c.args.seat.now in let test = c.loop-at-test.true in let row = row_of c.args.rows.now k in
    let put : HasPut v w own row = subst (λ (z : ℕ). HasPut v w z row) inv.same.1 done.put in
    let rows : (grown w own).rows ≡ (grown v own).rows ++ row ∷ [] = subst (λ (z : ℕ). (grown w z).rows ≡ (grown v z).rows ++ row ∷ []) inv.same.1 done.rows in record {
      same = (done.same.0 ∙ inv.same.0, done.same.1 ∙ inv.same.1);
      about = put.about ∙ inv.about;
      rows = put.rows ∙ inv.rows;
      mark = put.mark ∙ inv.mark;
      others = λ j n. put.others j n ∙ inv.others j n;
      loads = put.loads ∙ inv.loads;
      looks = put.looks ∙ inv.looks;
      longer = rows ∙ ((λ i. inv.longer i ++ row ∷ []) ∙ (front (shown_at v0 own).rows (take k c.args.rows.now) (row ∷ []) ∙ ap (λ (l : List Row). (shown_at v0 own).rows ++ l) (taken_more k c.args.rows.now test)));
      index = subst (λ (z : ℕ). IsIndexed (width a z) (grown w z).rows (grown w z).cells) inv.same.1 done.index;
    }
  where
    front : (xs ys zs : List Row) → (xs ++ ys) ++ zs ≡ xs ++ (ys ++ zs)
    front [] ys zs = refl
    front (x ∷ xs) ys zs = ap (λ (l : List Row). x ∷ l) (front xs ys zs)

pub returns : goal.returns
returns c =
    let inv = c.loop-at.invariant in let s = c.loop-at.seat in let test = c.loop-at-test.false in let done = c.show.ensures in
    let v = view c.args.seat.now in let own = scope_of c.args.seat.now in let a = key_of c.args.table.now in let whole = c.scope-put.ensures.whole in
    let there = whole.there in let wide = whole.wide in let at = inv.same.1 in
    let inside : own < length (view s).seen = subst (λ (z : ℕ). z < length (view s).seen) at (omega arith) in
    let all : (grown (view s) own).rows ≡ (shown_at v own).rows ++ c.args.rows.now = inv.longer ∙ ap (λ (rows : List Row). (shown_at v own).rows ++ rows) (taken_all c.loop-at.at c.args.rows.now test) in
    let shown : shown_at (view c.show.new.seat) own ≡ grown (view s) own = after_show (scope_of s) own (view s) (view c.show.new.seat) done.shown at inside in record {
      same = (done.same.0 ∙ inv.same.0, done.same.1 ∙ inv.same.1);
      about = ap (λ (w : View). w.about) done.shown ∙ inv.about;
      rows = ap (λ (t : Shown). t.rows) shown ∙ all;
      mark = ap (λ (t : Shown). t.complete) shown;
      others = λ j n. after_others (scope_of s) own (view s) (view c.show.new.seat) done.shown at j n ∙ inv.others j n;
      none = ap (λ (w : View). w.put) done.shown;
      loads = ap (λ (w : View). w.loads) done.shown ∙ inv.loads;
      looks = ap (λ (w : View). w.looks) done.shown ∙ inv.looks;
    }
