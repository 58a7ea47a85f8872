use Rattle.std.proofs.Common.{◌<◌, subst, sym, ◌∙◌}
use Rattle.scope_table.specs.Rule.{scopes, IsSeated}
use Rattle.scope_table.specs.declared.view.About.{About}
use Rattle.scope_table.specs.declared.view.View.{View}
use Rattle.scope_table.proofs.Rooms.{heads_within, seated_sees}
use Rattle.scope_table.proofs.Steps.{loads_head}
use Rattle.scope_table.proofs.table.ScopeTable.load_head.Goals as goal

pub load-word-requires : goal.load-word-requires
load-word-requires c = let t = c.args.self.now in (c.requires.table.0, heads_within _ _ _ t.laid c.requires.scope t.wide, loads_head _ _ _ _ _ c.requires.scope)

pub invariant_of-seat : goal.invariant_of-seat
invariant_of-seat c =
    let st = c.args.seat.now in let l : c.args.scope < scopes st.seat.me.0.about = subst (λ (b : About). c.args.scope < scopes b) (sym c.requires.table.1) c.requires.scope in let did = c.load-word.ensures.2.1 l in record {
      seated = subst (λ (w : View). IsSeated w st.scope st.shown st.waiting st.closed) (sym did.1) (seated_sees st.seat.me.0 st.scope st.shown st.waiting st.closed c.args.scope did.0 st.seated l did.2.later did.2.good did.2.mine);
      bare = c.load-word.ensures.2.0 ∙ st.bare;
    }
