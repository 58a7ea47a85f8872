use Rattle.std.proofs.Common.{◌≡◌, ℕ, ◌<◌, ◌||◌, Option, Some, length, sym, refl, ap, ◌∙◌, subst, arith}
use Rattle.std.specs.Prelude.{nat_lt}
use Rattle.m2_base.specs.Keys.{before_only, first_keyed}
use Rattle.m2_base.specs.Rows.{at_place, IsWellFormed}
use Rattle.m2_base.specs.declared.replies.Ask.TheVariants.{Known, DontKnowYet as Waiting}
use Rattle.m2_base.specs.declared.replies.Head.{Head}
use Rattle.m2_base.specs.declared.rows.Place.{Place}
use Rattle.m2_base.specs.declared.rows.Row.{Row}
use Rattle.m2_base.specs.declared.rows.RowKey.TheVariants.{Member}
use Rattle.scope_core.specs.Flights.{found_at}
use Rattle.scope_table.specs.Rule.{shown_at, texts_in}
use Rattle.scope_table.specs.Seats.{scope_of, view}
use Rattle.scope_table.specs.declared.table.TableSeat.{TableSeat}
use Rattle.dky_search.specs.Flying.{IsFormed}
use Rattle.dky_search.specs.SeatScopes.{key_in, view_in}
use Rattle.dky_search.proofs.Seen.{length-areas}
use Rattle.dky_search.proofs.Selects.{chosen, formed_before, known_field, still_coming, IsChosen}
use Rattle.dky_search.proofs.seat_scopes.SeatScopesScopes.select.Goals as goal

pub load_head-head-requires-clause-scope : goal.load_head-head-requires-clause-scope
load_head-head-requires-clause-scope c = subst (λ (n : ℕ). c.args.of.scope < n) (length-areas (key_in c.args.self.now)) c.requires

pub returns-then-not-counts : goal.returns-then-not-counts
returns-then-not-counts c =
    let s = c.args.self.now in let a = key_in s in let own = scope_of s.seat in let p = c.args.of in let l = c.load_head-head.ensures in let x = c.load_head-head.new.seat in let whole = c.scope-whole.ensures.whole in let h = c.load_head-head.result in
    let all : IsChosen a own (scope_of x) (view_in s) (view x) p c.args.name (Waiting h) =
    chosen a own (scope_of x) (view_in s) (view x) p c.args.name (Waiting h) l.sees l.later l.mine l.same.1 s.is.1 whole.wide whole.sound
    (still_coming (view x) p c.args.name h l.head (sym c.counts.ensures ∙ c.if-not-counts.true)) (λ hit e. absurd (cc)) in record {
      selected = all.selected;
      answer = all.answer;
      loads = all.loads;
      waits = all.waits;
      grown = all.grown;
      stays = all.stays;
      table = refl;
      counted = omega arith;
    }

pub returns : goal.returns
returns c =
    let s = c.args.self.now in let a = key_in s in let own = scope_of s.seat in let p = c.args.of in let l = c.load_head-head.ensures in let x = c.load_head-head.new.seat in let whole = c.scope-whole.ensures.whole in let h = c.load_head-head.result in
    let e = c.find-hit.ensures in let y = c.find-hit.new.seat in let o : Option (ℕ × Row) = c.found_before.result in
    let first : Option (ℕ × Row) = first_keyed (Member p.ordinal c.args.name) (shown_at (view x) p.scope).rows 0 in
    let scope : h.scope ≡ p.scope = ap (λ (k : Head). k.scope) l.head in
    let hit : c.find-hit.result ≡ found_at p.scope first =
    subst (λ (z : ℕ). c.find-hit.result ≡ found_at z (first_keyed (Member p.ordinal c.args.name) (shown_at (view x) z).rows 0)) scope e.found in
    let only : o ≡ before_only p.ordinal first = c.found_before.ensures p.scope first hit in
    let formed : (k : ℕ × Row) → Known o ≡ Known (Some k) → IsWellFormed (length (texts_in a).names) (at_place p.scope k.0) k.1 =
    (λ k same. let is : o ≡ Some k = cc in formed_before (length (texts_in a).names) p.scope p.ordinal first k (subst (IsFormed (length (texts_in a).names)) hit e.formed) (sym only ∙ is)) in
    let all : IsChosen a own (scope_of x) (view_in s) (view x) p c.args.name (Known o) =
    chosen a own (scope_of x) (view_in s) (view x) p c.args.name (Known o) l.sees l.later l.mine l.same.1 s.is.1 whole.wide whole.sound
    (known_field (view x) p c.args.name h o l.head (sym c.counts.ensures ∙ c.if-not-counts.false) only) formed in
    let here : IsChosen a own (scope_of y) (view_in s) (view y) p c.args.name (Known o) = subst (λ (z : TableSeat). IsChosen a own (scope_of z) (view_in s) (view z) p c.args.name (Known o)) (sym e.same) all in record {
      selected = here.selected;
      answer = here.answer;
      loads = here.loads;
      waits = here.waits;
      grown = here.grown;
      stays = here.stays;
      table = refl;
      counted = e.counted;
    }
