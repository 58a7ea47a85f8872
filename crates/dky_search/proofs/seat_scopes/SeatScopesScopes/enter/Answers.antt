use Rattle.std.proofs.Common.{ℕ, sym, refl, subst}
use Rattle.m2_base.specs.Scopes.{Entered}
use Rattle.scope_table.specs.Seats.{scope_of, view}
use Rattle.dky_search.specs.Seen.{state_in}
use Rattle.dky_search.specs.SeatScopes.{key_in, view_in}
use Rattle.dky_search.proofs.Enters.{entered, own_grown}
use Rattle.dky_search.proofs.seat_scopes.SeatScopesScopes.enter.Goals as goal

pub returns : goal.returns
returns c =
    let s = c.args.self.now in let own = scope_of s.seat in let v = view_in s in let w = view c.put_all.new.seat in let a = key_in s in let done = c.put_all.ensures in record {
      entered = subst (λ (z : ℕ). Entered (state_in a v own) (state_in a w z) c.args.rows.now) (sym done.same.1) (entered a own v w c.args.rows.now c.requires done.rows done.mark done.others done.looks);
      grown = own_grown own v w c.requires.open_yet (record { rest = c.args.rows.now; joined = sym done.rows }) done.others;
      loads = done.loads;
      table = refl;
      loaded = refl;
    }
