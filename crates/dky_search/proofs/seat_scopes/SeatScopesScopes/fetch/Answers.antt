use Rattle.std.proofs.Common.{◌≡◌, ℕ, ◌<◌, ◌≤◌, Some, length, sym, refl, ap, ◌∙◌, subst}
use Rattle.m2_base.specs.Rows.{IsWellFormed}
use Rattle.m2_base.specs.declared.replies.Ask.TheVariants.{Known}
use Rattle.m2_base.specs.declared.replies.Head.{Head}
use Rattle.m2_base.specs.declared.rows.Row.{Row}
use Rattle.scope_table.specs.Rule.{shown_at, texts_in}
use Rattle.scope_table.specs.Seats.{scope_of, view}
use Rattle.scope_table.specs.declared.table.TableSeat.{TableSeat}
use Rattle.dky_search.specs.SeatScopes.{key_in, view_in}
use Rattle.dky_search.proofs.Fetches.{IsGot, got, known_row, missing, none_there, uncounted}
use Rattle.dky_search.proofs.Seen.{length-areas}
use Rattle.dky_search.proofs.seat_scopes.SeatScopesScopes.fetch.Goals as goal

pub load_head-head-requires-clause-scope : goal.load_head-head-requires-clause-scope
load_head-head-requires-clause-scope c = subst (λ (n : ℕ). c.args.place.scope < n) (length-areas (key_in c.args.self.now)) c.requires

pub returns-then-place-head : goal.returns-then-place-head
returns-then-place-head c =
    let s = c.args.self.now in let a = key_in s in let own = scope_of s.seat in let p = c.args.place in let l = c.load_head-head.ensures in let x = c.load_head-head.new.seat in let whole = c.scope-whole.ensures.whole in let e = c.load_row-row.ensures in
    let less : p.ordinal < length (shown_at (view x) p.scope).rows = subst (λ (n : ℕ). p.ordinal < n) (ap (λ (h : Head). h.count) l.head) c.if-place-head.true in
    let row = c.load_row-row.result in
    let all : IsGot a own (scope_of x) (view_in s) (view x) p (Known (Some row)) =
    got a own (scope_of x) (view_in s) (view x) p (Known (Some row)) l.sees l.later l.mine l.same.1 s.is.1 whole.wide whole.sound (known_row (view x) p row less e.row)
    (λ r is. let same : row ≡ r = cc in subst (λ (q : Row). IsWellFormed (length (texts_in a).names) p q) same e.formed) in
    let here : IsGot a own (scope_of c.load_row-row.new.seat) (view_in s) (view c.load_row-row.new.seat) p (Known (Some row)) = subst (λ (z : TableSeat). IsGot a own (scope_of z) (view_in s) (view z) p (Known (Some row))) (sym e.same) all in record {
      fetched = here.fetched;
      answer = here.answer;
      loads = here.loads;
      waits = here.waits;
      grown = here.grown;
      stays = here.stays;
      table = refl;
      counted = e.counted;
    }

pub returns : goal.returns
returns c =
    let s = c.args.self.now in let a = key_in s in let own = scope_of s.seat in let p = c.args.place in let l = c.load_head-head.ensures in let x = c.load_head-head.new.seat in let whole = c.scope-whole.ensures.whole in
    let past : length (shown_at (view x) p.scope).rows ≤ p.ordinal = subst (λ (n : ℕ). n ≤ p.ordinal) (ap (λ (h : Head). h.count) l.head) c.if-place-head.false in
    let all : IsGot a own (scope_of x) (view_in s) (view x) p c.not_there.result =
    got a own (scope_of x) (view_in s) (view x) p c.not_there.result l.sees l.later l.mine l.same.1 s.is.1 whole.wide whole.sound (missing (view x) p c.load_head-head.result c.not_there.result past l.head c.not_there.ensures)
    (λ r is. absurd (none_there c.load_head-head.result r (sym c.not_there.ensures ∙ is))) in record {
      fetched = all.fetched;
      answer = all.answer;
      loads = all.loads;
      waits = all.waits;
      grown = all.grown;
      stays = all.stays;
      table = refl;
      counted = uncounted c.load_head-head.result s.rows_loaded c.not_there.result c.not_there.ensures;
    }
