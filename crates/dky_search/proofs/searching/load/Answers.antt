use Rattle.std.proofs.Common.{◌≡◌, ℕ, ◌<◌, length, sym, ap, ◌∙◌, subst}
use Rattle.m2_base.specs.Keys.{first_keyed}
use Rattle.m2_base.specs.declared.rows.RowKey.TheVariants.{Name}
use Rattle.m2_base.specs.Tables.{first_named}
use Rattle.m2_base.specs.declared.replies.Head.{Head}
use Rattle.m2_base.proofs.KeyLaws.{first_named-keyed}
use Rattle.scope_core.specs.Flights.{found_at}
use Rattle.scope_table.specs.Plays.{head_in, sees}
use Rattle.scope_table.specs.Rule.{scopes, shown_at, IsBefore}
use Rattle.scope_table.specs.Seats.{key_of, scope_of, view, IsSameSeat}
use Rattle.scope_table.specs.declared.table.TableSeat.{TableSeat}
use Rattle.scope_table.specs.declared.view.View.{View}
use Rattle.dky_search.proofs.searching.load.Goals as goal

pub find-hit-requires : goal.find-hit-requires
find-hit-requires c =
    let l = c.load_head-head.ensures in let h = c.load_head-head.result in
    let scope : h.scope ≡ c.args.scope = ap (λ (k : Head). k.scope) l.head in record {
      table = (l.same.0 ∙ c.requires.table.0, ap (λ (v : View). v.about) l.sees ∙ c.requires.table.1);
      scope = subst (λ (z : ℕ). z < scopes (key_of c.args.table.now)) (sym scope) c.requires.scope;
      count = ap (λ (k : Head). k.count) l.head ∙ ap (λ (z : ℕ). length (shown_at (view c.load_head-head.new.seat) z).rows) (sym scope);
    }

pub returns : goal.returns
returns c =
    let old = c.args.seat.now in let s = c.args.scope in let l = c.load_head-head.ensures in let h = c.load_head-head.result in let e = c.find-hit.ensures in
    let scope : h.scope ≡ s = ap (λ (k : Head). k.scope) l.head in
    let back = sym e.same in record {
      same = subst (λ (x : TableSeat). IsSameSeat old x) back l.same;
      sees = subst (λ (x : TableSeat). view x ≡ sees (view old) s (shown_at (view x) s)) back l.sees;
      later = subst (λ (x : TableSeat). IsBefore (shown_at (view old) s) (shown_at (view x) s)) back l.later;
      mine = subst (λ (x : TableSeat). s ≡ scope_of old → shown_at (view x) s ≡ shown_at (view old) s) back l.mine;
      head = subst (λ (x : TableSeat). h ≡ head_in s (shown_at (view x) s)) back l.head;
      hit = subst (λ (x : TableSeat). c.find-hit.result ≡ found_at s (first_named c.args.name (shown_at (view x) s).rows 0)) back
          (subst (λ (z : ℕ). c.find-hit.result ≡ found_at z (first_keyed (Name c.args.name) (shown_at (view c.load_head-head.new.seat) z).rows 0)) scope e.found
          ∙ ap (found_at s) (sym (first_named-keyed c.args.name c.requires.named (shown_at (view c.load_head-head.new.seat) s).rows 0)));
      formed = e.formed;
      counted = e.counted;
    }
