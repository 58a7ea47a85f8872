use Rattle.std.proofs.Common.{◌≡◌, ℕ, ◌<◌, [], length, sym, refl, ap, ◌∙◌, subst, arith, get_or-set_same, get_or-set_other, append-nil}
use Rattle.m2_base.specs.Scopes.{Completed}
use Rattle.scope_table.specs.Plays.{ended}
use Rattle.scope_table.specs.Rule.{nothing, shown_at, IsFair}
use Rattle.scope_table.specs.Seats.{scope_of, view}
use Rattle.scope_table.specs.declared.view.About.{About}
use Rattle.scope_table.specs.declared.view.Shown.{Shown}
use Rattle.scope_table.specs.declared.view.View.{View}
use Rattle.dky_search.specs.Seen.{state_in}
use Rattle.dky_search.specs.SeatScopes.{key_in, view_in}
use Rattle.dky_search.proofs.Enters.{completed, fair_ended, own_grown}
use Rattle.dky_search.proofs.seat_scopes.SeatScopesScopes.complete.Goals as goal

pub seal-requires-clause-fair : goal.seal-requires-clause-fair
seal-requires-clause-fair c =
    let s = c.args.self.now in let own = scope_of s.seat in let v = view_in s in let whole = c.scope-whole.ensures.whole in let a = key_in s in
    let fair : IsFair a own (shown_at v own).rows (shown_at v own).complete = subst (λ (b : About). IsFair b own (shown_at v own).rows (shown_at v own).complete) s.is.1 (whole.sound own whole.there).fair in
    fair_ended a v own fair c.requires

pub returns : goal.returns
returns c =
    let s = c.args.self.now in let own = scope_of s.seat in let v = view_in s in let w = view c.seal.new.seat in let whole = c.scope-whole.ensures.whole in let a = key_in s in
    let there = whole.there in let wide = whole.wide in let inside : own < length v.seen = omega arith in let done = c.seal.ensures in
    let at : shown_at w own ≡ ended v own = ap (λ (u : View). shown_at u own) done.sealed ∙ get_or-set_same v.seen own (ended v own) nothing inside in record {
      completed = subst (λ (z : ℕ). Completed (state_in a v own) (state_in a w z)) (sym done.same.1) (completed a own v w c.requires done.sealed inside);
      grown = own_grown own v w c.requires.open_yet (record { rest = []; joined = append-nil (shown_at v own).rows ∙ ap (λ (t : Shown). t.rows) (sym at) })
          (λ j n. ap (λ (u : View). shown_at u j) done.sealed ∙ get_or-set_other v.seen own j (ended v own) nothing n);
      loads = ap (λ (u : View). u.loads) done.sealed;
      table = refl;
      loaded = refl;
    }
