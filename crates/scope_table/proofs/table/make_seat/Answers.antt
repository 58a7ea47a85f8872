use Rattle.std.proofs.Common.{◌≡◌, length, get_or, sym, ap, ◌∙◌, arith}
use Rattle.scope_table.specs.Rule.{shown_at, width}
use Rattle.scope_table.specs.declared.view.Shown.{Shown}
use Rattle.scope_table.proofs.Opening.{zeros}
use Rattle.scope_table.proofs.table.make_seat.Goals as goal

pub invariant_of-result : goal.invariant_of-result
invariant_of-result c = let r = c.requires in let v = c.args.seat.me.0 in record {
  seated = record {
    mine = r.mine;
    wide = r.wide;
    there = r.scope;
    shown_is = ap (λ (t : Shown). length t.rows) (sym r.empty);
    waiting_is = ap length r.put;
    closed_is = ap (λ (t : Shown). t.complete) (sym r.empty);
    rooms = r.sound;
    own_room = let g = (r.sound c.args.scope r.scope).room in omega arith;
    zero = r.zero;
    own_cells = λ q. let e : get_or (shown_at v c.args.scope).cells q 0 ≡ 0 = ap (λ (t : Shown). get_or t.cells q 0) r.empty ∙ zeros (width v.about c.args.scope) q in omega arith;
  };
  bare = r.bare;
}
