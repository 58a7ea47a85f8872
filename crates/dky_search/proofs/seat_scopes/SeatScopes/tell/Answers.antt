use Rattle.std.proofs.Common.{◌≡◌, ◌≢◌, ℕ, [], length, sym, ap, ◌∙◌, subst}
use Rattle.scope_table.specs.Rule.{scopes}
use Rattle.scope_table.specs.Seats.{scope_of, view, key_of, IsOf}
use Rattle.scope_table.specs.declared.table.ScopeTable.{ScopeTable}
use Rattle.scope_table.specs.declared.table.TableSeat.{TableSeat}
use Rattle.scope_table.specs.declared.view.About.{About}
use Rattle.scope_table.specs.declared.view.View.{View}
use Rattle.dky_search.specs.Seen.{state_in}
use Rattle.dky_search.specs.SeatScopes.{key_in, view_in, IsTold}
use Rattle.dky_search.proofs.Telling.{told}
use Rattle.dky_search.proofs.seat_scopes.SeatScopes.tell.Goals as goal

pub tell-requires-clause-to : goal.tell-requires-clause-to
tell-requires-clause-to c = subst (λ (t : ScopeTable). IsOf t c.args.to.now.seat) c.requires.table c.args.to.now.is

pub invariant_of-to : goal.invariant_of-to
invariant_of-to c =
    let t = c.args.to.now in let done = c.tell.ensures in record {
      is = (done.same.0 ∙ t.is.0, ap (λ (v : View). v.about) done.told ∙ t.is.1);
      none_put = ap (λ (v : View). v.put) done.told ∙ t.none_put;
      inner = λ e. t.inner (sym done.same.1 ∙ e);
    }

pub returns-clause-told : goal.returns-clause-told
returns-clause-told c =
    let s = c.args.self.now in let t = c.args.to.now in let one = c.scope.ensures.whole in let two = c.scope-2.ensures.whole in let done = c.tell.ensures in
    let a = key_in t in let own = scope_of t.seat in let other = scope_of s.seat in let v = view_in t in let w = view_in s in let u = view c.tell.new.to in
    let keys : a ≡ key_in s = ap key_of c.requires.table in
    let wide : length w.seen ≡ length v.seen = one.wide ∙ (ap scopes (s.is.1 ∙ (sym keys ∙ sym t.is.1)) ∙ sym two.wide) in
    subst (λ (z : ℕ). IsTold (state_in (key_in s) w other) (state_in a v own) (state_in a u z)) (sym done.same.1)
    (subst (λ (b : About). IsTold (state_in b w other) (state_in a v own) (state_in a u own)) keys (told a own other v w u two.rights wide done.told))

pub returns-clause-from : goal.returns-clause-from
returns-clause-from c = ap view c.tell.ensures.from

pub returns-clause-state : goal.returns-clause-state
returns-clause-state c = ap (λ (s : TableSeat). state_in (key_in c.args.self.now) (view s) (scope_of s)) c.tell.ensures.from

pub invariant_of-self : goal.invariant_of-self
invariant_of-self c =
    let s = c.args.self.now in let back = sym c.tell.ensures.from in record {
      is = subst (IsOf s.table.now) back s.is;
      none_put = subst (λ (x : TableSeat). (view x).put ≡ []) back s.none_put;
      inner = subst (λ (x : TableSeat). scope_of x ≢ 0) back s.inner;
    }
