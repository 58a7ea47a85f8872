use Rattle.std.proofs.Common.{ℕ, ◌<◌, sym, ◌∙◌, subst}
use Rattle.scope_table.specs.Rule.{scopes, shown_at, IsFair}
use Rattle.scope_table.specs.Seats.{scope_of}
use Rattle.scope_table.specs.declared.view.About.{About}
use Rattle.dky_search.specs.SeatScopes.{key_in, view_in}
use Rattle.dky_search.proofs.Seen.{length-areas}
use Rattle.dky_search.proofs.Telling.{front_of}
use Rattle.dky_search.proofs.seat_scopes.SeatScopes.filled.Goals as goal

pub returns : goal.returns
returns c =
    let s = c.args.self.now in let own = scope_of s.seat in let v = view_in s in let whole = c.scope.ensures.whole in let a = key_in s in
    let fair : IsFair a own (shown_at v own).rows (shown_at v own).complete = subst (λ (b : About). IsFair b own (shown_at v own).rows (shown_at v own).complete) s.is.1 (whole.sound own whole.there).fair in record {
      filled = c.scope.ensures.scope;
      inner = λ e. s.inner (sym c.scope.ensures.scope ∙ e);
      sound = record { zero_seen = whole.zero s.inner; own_seen = λ done. done };
      front = front_of a own v fair;
      inside = subst (λ (n : ℕ). own < n) (sym (length-areas a)) (subst (λ (b : About). own < scopes b) s.is.1 whole.there);
      once = fair.once;
    }
