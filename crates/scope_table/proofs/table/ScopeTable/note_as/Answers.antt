use Rattle.std.proofs.Common.{subst, sym, ◌∙◌}
use Rattle.scope_table.specs.Rule.{IsSeated, IsLawful, scopes, shown_at}
use Rattle.scope_table.specs.declared.view.View.{View}
use Rattle.scope_table.specs.Seats.{key_of, view}
use Rattle.scope_table.proofs.Looks.{lawful_flight}
use Rattle.scope_table.proofs.Rooms.{heads_within, seated_notes}
use Rattle.scope_table.proofs.Cuts.{notes_look}
use Rattle.scope_table.proofs.table.ScopeTable.note_as.Goals as goal

pub load-requires : goal.load-requires
load-requires g c =
    let t = c.args.self.now in let z = t.laid.some_scope in let l = heads_within t.table.shared.key 0 t.table.shared.table_id.words t.laid z t.wide in let a = key_of t in let v = view c.args.seat.now in
    (c.requires.table.0, l, notes_look _ _ _ _ _ (subst (IsLawful (scopes a) (shown_at v)) (sym c.requires.look) (lawful_flight a v c.args._at c.args._flight.now c.requires.flown)))

pub invariant_of-seat : goal.invariant_of-seat
invariant_of-seat g c = let st = c.args.seat.now in record {
  seated = subst (λ (w : View). IsSeated w st.scope st.shown st.waiting st.closed) (sym c.load.ensures.2.1) (seated_notes st.seat.me.0 st.scope st.shown st.waiting st.closed _ st.seated);
  bare = c.load.ensures.2.0 ∙ st.bare;
}
