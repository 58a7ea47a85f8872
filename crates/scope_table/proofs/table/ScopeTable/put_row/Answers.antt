use Rattle.std.proofs.Common.{◌≡◌, ◌+◌, ◌++◌, ◌∷◌, [], List, sym, ap, ◌∙◌, subst, refl, arith, append_assoc}
use Rattle.m2_base.specs.declared.rows.Row.{Row}
use Rattle.scope_table.specs.Rows.{rows_of, words_of}
use Rattle.scope_table.specs.Rule.{base, mid, shown_at, IsSeated}
use Rattle.scope_table.specs.Plays.{puts, grown}
use Rattle.scope_table.specs.Seats.{view}
use Rattle.scope_table.specs.declared.view.About.{About}
use Rattle.scope_table.specs.declared.view.View.{View}
use Rattle.scope_table.proofs.Rows.{rows_of-more}
use Rattle.scope_table.proofs.Rooms.{reads, grown_length, seated_puts}
use Rattle.scope_table.proofs.table.ScopeTable.put_row.Goals as goal

pub put_words-requires-clause-place : goal.put_words-requires-clause-place
put_words-requires-clause-place c =
    let t = c.args.self.now in let st = c.args.seat.now in let v = view st in let a = t.table.shared.key in let about = c.requires.table.1 in
    let is = reads a t.bases st.scope c.at.result t.bases_are c.at.ensures in let room = c.requires.room in let n = st.seated.waiting_is in let k = st.seated.shown_is in
    let bases = ap (λ (b : About). base b st.scope) about in let mids = ap (λ (b : About). mid b st.scope) about in let len = grown_length v st.scope st.shown st.waiting st.closed st.seated in record {
      scope = st.scope;
      mine = st.seated.mine;
      there = st.seated.there;
      at = omega arith;
      room = omega arith;
    }

pub invariant_of-seat : goal.invariant_of-seat
invariant_of-seat c =
    let st = c.args.seat.now in let v = view st in let room = c.requires.room in let about = c.requires.table.1 in let len = grown_length v st.scope st.shown st.waiting st.closed st.seated in
    let bases = ap (λ (b : About). base b st.scope) about in let mids = ap (λ (b : About). mid b st.scope) about in record {
      seated = subst (λ (w : View). IsSeated w st.scope st.shown (st.waiting + 1) st.closed) (sym c.put_words.ensures.put) (subst (λ (xs : _). IsSeated (puts v xs) st.scope st.shown (st.waiting + 1) st.closed) (sym c.to_words.ensures.words) (seated_puts v st.scope st.shown st.waiting st.closed (words_of c.args.row.now) refl st.seated (omega arith)));
      bare = c.put_words.ensures.same.1 ∙ st.bare;
    }

pub returns-clause-rows : goal.returns-clause-rows
returns-clause-rows c =
    let st = c.args.seat.now in let v = view st in
    let now : c.put_words.new.seat.me.0 ≡ puts v (words_of c.args.row.now) = c.put_words.ensures.put ∙ ap (puts v) c.to_words.ensures.words in
    ap (λ (w : View). (grown w st.scope).rows) now
    ∙ (ap (λ (rows : List Row). (shown_at v st.scope).rows ++ rows) (rows_of-more st.waiting v.put c.args.row.now st.seated.waiting_is c.to_words.ensures.narrow) ∙ sym (append_assoc (shown_at v st.scope).rows (rows_of v.put) (c.args.row.now ∷ [])))
