use Rattle.std.proofs.Common.{◌≡◌, ℕ, ◌+◌, ◌-◌, ◌<◌, List, [], ◌∷◌, ◌++◌, length, get_or, sym, ap, ◌∙◌, subst, arith, length-append}
use Rattle.scope_table.specs.Opening.{IsEmptyStart, IsStart}
use Rattle.scope_table.specs.Plays.{first_right, other_rights, note_of, told_of}
use Rattle.scope_table.specs.Rule.{IsSound, empty_at, scopes, upto}
use Rattle.scope_table.specs.Seats.{key_of, view, IsFirst}
use Rattle.scope_table.specs.declared.table.TableSeat.{TableSeat}
use Rattle.scope_table.specs.declared.view.View.{View}
use Rattle.scope_table.proofs.Rooms.{heads_within}
use Rattle.scope_table.proofs.Cuts.{splits_right, splits_note}
use Rattle.scope_table.proofs.Opening.{empty_first, empty_other, start_note, start_first, start_other, start_told, rest_next, rest_first, pushed_each}
use Rattle.m2_base.proofs.Without.{if_ok_of_err}
use Rattle.scope_table.proofs.table.ScopeTable.seats.Goals as goal

pub split_seat-zero-requires : goal.split_seat-zero-requires
split_seat-zero-requires c = let t = c.args.self.now in let z = t.laid.some_scope in (c.requires.table.0, heads_within t.table.shared.key 0 t.table.shared.table_id.words t.laid z t.wide, splits_right _ _ _ c.requires.start.put)

pub split_seat-note-requires : goal.split_seat-note-requires
split_seat-note-requires c =
    let t = c.args.self.now in let z = t.laid.some_scope in
    (c.fill_standard.ensures.same.0 ∙ (ap (λ s. s.table_id) c.make_seat-zero.ensures.0 ∙ (c.split_seat-zero.ensures.3 ∙ c.requires.table.0)), heads_within t.table.shared.key 0 t.table.shared.table_id.words t.laid z t.wide, splits_note _ _ _)

pub split_seat-seat-requires : goal.split_seat-seat-requires
split_seat-seat-requires c =
    let t = c.args.self.now in let z = t.laid.some_scope in let inv = c.loop-scope.invariant in (inv.table_id, heads_within t.table.shared.key 0 t.table.shared.table_id.words t.laid z t.wide, splits_right _ _ _ inv.start.put)

pub make_seat-requires-clause-mine : goal.make_seat-requires-clause-mine
make_seat-requires-clause-mine c = let inv = c.loop-scope.invariant in ap (λ m. m.0.rights) c.split_seat-seat.ensures.4 ∙ rest_first c.loop-scope.first.me.0.rights c.loop-scope.scope c.args.many c.loop-scope-test.true inv.rights

pub loop-scope-init : goal.loop-scope-init
loop-scope-init c =
    let a = key_of c.args.self.now in let v = c.args.first.me.0 in let w : View = c.fill_standard.new.seat.seat.me.0 in let n = c.args.many in let pos = c.requires.many.1 in
    let cut = c.split_seat-zero.ensures in let noted = c.split_seat-note.ensures in let filled = c.fill_standard.ensures in let made = c.make_seat-zero.ensures in
    let rights : v.rights ≡ upto 0 (n - 0) = c.requires.rights ∙ ap (upto 0) (omega arith) in
    let left : c.split_seat-zero.new.seat.me.0 ≡ other_rights v = ap (λ m. m.0) cut.2 in let note : c.split_seat-note.result.me.0 ≡ note_of w = ap (λ m. m.0) noted.4 in
    let told : c.tell_first.new.first.me.0 ≡ told_of (other_rights v) (note_of w) = c.tell_first.ensures.told ∙ (λ i. told_of (left i) (note i)) in
    let kept : c.split_seat-note.new.seat.me.0 ≡ w = ap (λ m. m.0) noted.2 in
    let mine : w.rights ≡ 0 ∷ [] = filled.rights ∙ (ap (λ s. s.me.0.rights) made.0 ∙ (ap (λ m. m.0.rights) cut.4 ∙ rest_first v.rights 0 n pos rights)) in
    let table : c.fill_standard.new.seat.seat.table_id ≡ _ = filled.same.0 ∙ (ap (λ s. s.table_id) made.0 ∙ (cut.3 ∙ c.requires.table.0)) in
    let items = c.in_ok-push.ensures.items in let none = ap length c.in_ok-seats.ensures.items in record {
      table_id = c.tell_first.ensures.same.0 ∙ (cut.0 ∙ c.requires.table.0);
      bare = c.tell_first.ensures.same.1 ∙ (ap (λ m. m.1) cut.2 ∙ c.requires.table.1);
      start = subst (IsStart a) (sym told) (start_told a n (other_rights v) (note_of w) c.requires.many.0 pos (empty_other a v c.requires.start) c.requires.sound (rest_next v.rights 0 n pos rights) (start_note a w filled.start));
      rights = ap (λ (x : View). x.rights) told ∙ rest_next v.rights 0 n pos rights;
      each = subst (λ (l : List TableSeat). (k : ℕ) (d : TableSeat) → k < 0 + 1 → IsFirst c.args.self.now k (get_or l k d)) (sym items)
          (pushed_each (IsFirst c.args.self.now) c.in_ok-seats.seats.items _ 0 none (λ k d l. absurd (omega arith)) record {
            scope = filled.same.1 ∙ made.1;
            table = (noted.0 ∙ table, ap (λ (x : View). x.about) kept ∙ filled.start.about);
            rights = ap (λ (x : View). x.rights) kept ∙ mine;
            start = subst (IsStart a) (sym kept) filled.start;
          });
      all = ap length items ∙ (length-append c.in_ok-seats.seats.items _ ∙ ap (λ (m : ℕ). m + 1) none);
    }

pub loop-scope-preserved : goal.loop-scope-preserved
loop-scope-preserved c =
    let a = key_of c.args.self.now in let inv = c.loop-scope.invariant in let v = c.loop-scope.first.me.0 in let j = c.loop-scope.scope in let n = c.args.many in
    let cut = c.split_seat-seat.ensures in let made = c.make_seat.ensures in let test = c.loop-scope-test.true in
    let left : c.split_seat-seat.new.seat.me.0 ≡ other_rights v = ap (λ m. m.0) cut.2 in let right : c.split_seat-seat.result.me.0 ≡ first_right v = ap (λ m. m.0) cut.4 in
    let seen : view c.make_seat.result ≡ first_right v = ap (λ s. s.me.0) made.0 ∙ right in
    let here : IsFirst c.args.self.now j c.make_seat.result = record {
      scope = made.1;
      table = (ap (λ s. s.table_id) made.0 ∙ (cut.3 ∙ inv.table_id), ap (λ (x : View). x.about) seen ∙ inv.start.about);
      rights = ap (λ (x : View). x.rights) seen ∙ rest_first v.rights j n test inv.rights;
      start = subst (IsStart a) (sym seen) (start_first a v inv.start);
    } in let items : c.push-in-loop-scope.new.self.items ≡ c.loop-scope.seats.items ++ c.make_seat.result ∷ [] = c.in_ok-push-2.ensures.items in record {
      table_id = cut.0 ∙ inv.table_id;
      bare = ap (λ m. m.1) cut.2 ∙ inv.bare;
      start = subst (IsStart a) (sym left) (start_other a v inv.start);
      rights = ap (λ (x : View). x.rights) left ∙ rest_next v.rights j n test inv.rights;
      each = subst (λ (l : List TableSeat). (k : ℕ) (d : TableSeat) → k < j + 1 → IsFirst c.args.self.now k (get_or l k d)) (sym items)
          (pushed_each (IsFirst c.args.self.now) c.loop-scope.seats.items c.make_seat.result j inv.all inv.each here);
      all = ap length items ∙ (length-append c.loop-scope.seats.items (c.make_seat.result ∷ []) ∙ ap (λ (m : ℕ). m + 1) inv.all);
    }

pub returns-in_err-push : goal.returns-in_err-push
returns-in_err-push c = if_ok_of_err _ c.from_residual-in_err-push.result c.from_residual-in_err-push.ensures.0

pub returns-in_err-push-2 : goal.returns-in_err-push-2
returns-in_err-push-2 c = if_ok_of_err _ c.from_residual-in_err-push-2.result c.from_residual-in_err-push-2.ensures.0

pub make_seat-requires-clause-wide : goal.make_seat-requires-clause-wide
make_seat-requires-clause-wide c =
    let a = key_of c.args.self.now in let v = c.loop-scope.first.me.0 in
    let right : c.split_seat-seat.result.me.0 ≡ first_right v = ap (λ m. m.0) c.split_seat-seat.ensures.4 in
    let start : IsStart a c.split_seat-seat.result.me.0 = subst (IsStart a) (sym right) (start_first a v c.loop-scope.invariant.start) in
    start.wide ∙ ap scopes (sym start.about)

pub make_seat-requires-clause-sound : goal.make_seat-requires-clause-sound
make_seat-requires-clause-sound c =
    let a = key_of c.args.self.now in let v = c.loop-scope.first.me.0 in
    let right : c.split_seat-seat.result.me.0 ≡ first_right v = ap (λ m. m.0) c.split_seat-seat.ensures.4 in
    let start : IsStart a c.split_seat-seat.result.me.0 = subst (IsStart a) (sym right) (start_first a v c.loop-scope.invariant.start) in
    start.sound

pub make_seat-requires-clause-scope : goal.make_seat-requires-clause-scope
make_seat-requires-clause-scope c =
    let a = key_of c.args.self.now in let v = c.loop-scope.first.me.0 in
    let right : c.split_seat-seat.result.me.0 ≡ first_right v = ap (λ m. m.0) c.split_seat-seat.ensures.4 in
    let start : IsStart a c.split_seat-seat.result.me.0 = subst (IsStart a) (sym right) (start_first a v c.loop-scope.invariant.start) in
    subst (λ n. c.loop-scope.scope < n) (sym (ap scopes start.about ∙ c.requires.many.0)) c.loop-scope-test.true

pub make_seat-requires-clause-empty : goal.make_seat-requires-clause-empty
make_seat-requires-clause-empty c =
    let a = key_of c.args.self.now in let v = c.loop-scope.first.me.0 in
    let right : c.split_seat-seat.result.me.0 ≡ first_right v = ap (λ m. m.0) c.split_seat-seat.ensures.4 in
    let start : IsStart a c.split_seat-seat.result.me.0 = subst (IsStart a) (sym right) (start_first a v c.loop-scope.invariant.start) in
    start.others c.loop-scope.scope c.loop-scope.auto.scope (subst (λ n. c.loop-scope.scope < n) (sym c.requires.many.0) c.loop-scope-test.true)
    ∙ ap (λ b. empty_at b c.loop-scope.scope) (sym start.about)

pub make_seat-zero-requires-clause-mine : goal.make_seat-zero-requires-clause-mine
make_seat-zero-requires-clause-mine c =
    let v = c.args.first.me.0 in
    ap (λ m. m.0.rights) c.split_seat-zero.ensures.4
    ∙ rest_first v.rights 0 c.args.many c.requires.many.1 (c.requires.rights ∙ ap (upto 0) (omega arith))

pub make_seat-zero-requires-clause-sound : goal.make_seat-zero-requires-clause-sound
make_seat-zero-requires-clause-sound c = subst IsSound (sym (ap (λ m. m.0) c.split_seat-zero.ensures.4)) c.requires.sound

pub fill_standard-requires-clause-start : goal.fill_standard-requires-clause-start
fill_standard-requires-clause-start c =
    let a = key_of c.args.self.now in let v = c.args.first.me.0 in
    subst (IsEmptyStart a) (sym (ap (λ s. s.me.0) c.make_seat-zero.ensures.0 ∙ ap (λ m. m.0) c.split_seat-zero.ensures.4)) (empty_first a v c.requires.start)
