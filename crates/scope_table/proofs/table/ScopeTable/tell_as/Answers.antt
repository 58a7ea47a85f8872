use Rattle.std.proofs.Common.{◌≡◌, subst, sym, ap, ◌∙◌}
use Rattle.scope_table.specs.Rule.{IsSeated}
use Rattle.scope_table.specs.declared.view.View.{View}
use Rattle.scope_table.proofs.Rooms.{heads_within, seated_told}
use Rattle.scope_table.proofs.Cuts.{tells_as}
use Rattle.scope_table.proofs.table.ScopeTable.tell_as.Goals as goal

pub join_seat-requires : goal.join_seat-requires
join_seat-requires g c =
    let t = c.args.self.now in let z = t.laid.some_scope in let l = heads_within t.table.shared.key 0 t.table.shared.table_id.words t.laid z t.wide in
    (c.requires.table.0, c.requires.note.0, c.requires.note.1, l, tells_as _ _ _ _ _ _ c.requires.about)

pub invariant_of-to : goal.invariant_of-to
invariant_of-to g c =
    let st = c.args.to.now in let same : c.args.note.me.0.about ≡ st.seat.me.0.about = c.requires.note.2 ∙ (c.requires.about ∙ sym c.requires.table.1) in let now = c.join_seat.ensures.2 in record {
      seated = subst (λ (w : View). IsSeated w st.scope st.shown st.waiting st.closed) (ap (λ m. m.0) (sym now)) (seated_told st.seat.me.0 c.args.note.me.0 st.scope st.shown st.waiting st.closed st.seated same c.requires.note.3);
      bare = ap (λ m. m.1) now ∙ st.bare;
    }
