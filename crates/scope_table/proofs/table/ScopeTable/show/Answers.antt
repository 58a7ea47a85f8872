use Rattle.std.proofs.Common.{◌+◌, ◌*◌, ◌<◌, ◌≤◌, false, suc, subst, sym, ◌∙◌, arith}
use Rattle.scope_table.specs.Rule.{IsFair, width, mid, base, scopes, IsSeated}
use Rattle.scope_table.specs.Cells.{IsIndexed}
use Rattle.scope_table.specs.declared.view.About.{About}
use Rattle.scope_table.specs.declared.view.View.{View}
use Rattle.scope_table.specs.Plays.{grown}
use Rattle.scope_table.proofs.Rooms.{heads_within, seated_shows}
use Rattle.scope_table.proofs.Steps.{shows_rows}
use Rattle.scope_table.proofs.table.ScopeTable.show.Goals as goal

pub store-requires : goal.store-requires
store-requires c =
    let t = c.args.self.now in let st = c.args.seat.now in let a = t.table.shared.key in let l : st.scope < scopes a = subst (λ (b : About). st.scope < scopes b) c.requires.table.1 st.seated.there in
    let k = st.seated.shown_is in
    (c.requires.table.0, heads_within a st.scope _ t.laid l t.wide, shows_rows a _ _ _ st.scope st.waiting _ st.seated.mine c.requires.going st.seated.waiting_is (omega arith) c.requires.fair c.requires.index c.requires.formed)

pub invariant_of-seat : goal.invariant_of-seat
invariant_of-seat c = let st = c.args.seat.now in record {
  seated = subst (λ (w : View). IsSeated w st.scope (st.shown + st.waiting) 0 st.closed) (sym c.store.ensures.2.1) (seated_shows st.seat.me.0 st.scope st.shown st.waiting st.closed st.seated c.requires.going (subst (λ (b : About). IsFair b st.scope (grown st.seat.me.0 st.scope).rows false) (sym c.requires.table.1) c.requires.fair) (subst (λ (b : About). IsIndexed (width b st.scope) (grown st.seat.me.0 st.scope).rows (grown st.seat.me.0 st.scope).cells) (sym c.requires.table.1) c.requires.index));
  bare = c.store.ensures.2.0 ∙ st.bare;
}

pub overflow_add-count : goal.overflow_add-count
overflow_add-count c =
    let t = c.args.self.now in let st = c.args.seat.now in let a = t.table.shared.key in let l : st.scope < scopes a = subst (λ (b : About). st.scope < scopes b) c.requires.table.1 st.seated.there in
    let room = subst (λ (b : About). base b st.scope + 8 * st.shown + 8 * st.waiting ≤ mid b st.scope) c.requires.table.1 st.seated.own_room in
    let behind = t.behind st.scope l in let u = t.laid.up (suc st.scope) (scopes a) (omega arith) (omega arith) in let small = t.small in omega arith
