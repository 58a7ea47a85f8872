use Rattle.std.proofs.Common.{◌<◌, subst, sym, ◌∙◌, arith, true}
use Rattle.scope_table.specs.Rule.{IsFair, scopes, IsSeated}
use Rattle.scope_table.specs.declared.view.About.{About}
use Rattle.scope_table.specs.declared.view.View.{View}
use Rattle.scope_table.specs.Plays.{ended}
use Rattle.scope_table.proofs.Rooms.{heads_within, seated_seals}
use Rattle.scope_table.proofs.Steps.{seals_scope}
use Rattle.scope_table.proofs.table.ScopeTable.seal.Goals as goal

pub store-requires : goal.store-requires
store-requires c =
    let t = c.args.self.now in let st = c.args.seat.now in let a = t.table.shared.key in let l : st.scope < scopes a = subst (λ (b : About). st.scope < scopes b) c.requires.table.1 st.seated.there in
    let k = st.seated.shown_is in
    (c.requires.table.0, heads_within a st.scope _ t.laid l t.wide, seals_scope a _ _ _ st.scope _ st.seated.mine c.requires.going c.requires.none (omega arith) c.requires.fair)

pub invariant_of-seat : goal.invariant_of-seat
invariant_of-seat c = let st = c.args.seat.now in record {
  seated = subst (λ (w : View). IsSeated w st.scope st.shown st.waiting true) (sym c.store.ensures.2.1) (seated_seals st.seat.me.0 st.scope st.shown st.waiting st.closed st.seated (subst (λ (b : About). IsFair b st.scope (ended st.seat.me.0 st.scope).rows true) (sym c.requires.table.1) c.requires.fair));
  bare = c.store.ensures.2.0 ∙ st.bare;
}
