use Rattle.std.proofs.Common.{◌+◌, ◌<◌, ap, subst, sym, ◌∙◌, arith}
use Rattle.std.proofs.Math.Nat.{mod-lt}
use Rattle.scope_table.specs.declared.view.About.{About}
use Rattle.scope_table.specs.declared.view.View.{View}
use Rattle.scope_table.specs.Cells.{home, seed}
use Rattle.scope_table.specs.Rule.{scopes, mid, width, IsSeated}
use Rattle.scope_table.specs.Seats.{view}
use Rattle.scope_table.proofs.Cells.{reads_mid, cell_within, puts_cell, seated_marks}
use Rattle.scope_table.proofs.Rooms.{grown_length}
use Rattle.scope_table.proofs.table.ScopeTable.put_cell.Goals as goal

pub store-requires : goal.store-requires
store-requires c =
    let t = c.args.self.now in let st = c.args.seat.now in let v = view st in let a = t.table.shared.key in let l : st.scope < scopes a = subst (λ (b : About). st.scope < scopes b) c.requires.table.1 st.seated.there in
    let row = c.requires.row in let behind = t.behind st.scope l in let w = width a st.scope in
    let at = row.first.is in let pos : 0 < w = omega arith in let b = mod-lt (home w (seed row.key) + row.first.distance) pos in
    let less : c.args.cell < width a st.scope = omega arith in
    let is = reads_mid a t.mids st.scope c.at.result t.mids_are c.at.ensures in let inside = cell_within a st.scope c.args.cell t.table.shared.table_id.words t.laid l t.wide less in
    let len = grown_length v st.scope st.shown st.waiting st.closed st.seated in let n = st.seated.waiting_is in let k = st.seated.shown_is in let put = row.put in
    (c.requires.table.0, omega arith, puts_cell a _ _ _ st.scope c.args.cell _ c.args.ordinal st.seated.mine c.requires.going less row.first.empty (omega arith) row.new (omega arith))

pub invariant_of-seat : goal.invariant_of-seat
invariant_of-seat c =
    let t = c.args.self.now in let st = c.args.seat.now in let v = view st in let a = t.table.shared.key in let is = reads_mid a t.mids st.scope c.at.result t.mids_are c.at.ensures in
    let row = c.requires.row in let len = grown_length v st.scope st.shown st.waiting st.closed st.seated in let put = row.put in
    let same = ap (λ (b : About). mid b st.scope) c.requires.table.1 in let did = c.store.ensures.2.1 st.scope c.args.cell st.seated.mine (omega arith) in record {
      seated = subst (λ (w : View). IsSeated w st.scope st.shown st.waiting st.closed) (sym did) (seated_marks st.seat.me.0 st.scope st.shown st.waiting c.args.cell c.args.ordinal st.closed st.seated row.first.empty row.new (omega arith));
      bare = c.store.ensures.2.0 ∙ st.bare;
    }
