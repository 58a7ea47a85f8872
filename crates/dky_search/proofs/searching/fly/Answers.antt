use Rattle.std.proofs.Common.{◌≡◌, ℕ, ◌+◌, ◌<◌, [], ◌∷◌, Some, length, sym, refl, ap, ◌∙◌, subst, arith, length-append}
use Rattle.m2_base.specs.Lists.{Each}
use Rattle.m2_base.specs.Tables.{first_named}
use Rattle.m2_base.specs.declared.replies.Head.{Head}
use Rattle.scope_core.specs.Flights.{Flown, found_at, with_load}
use Rattle.scope_table.specs.Rule.{scopes, shown_at}
use Rattle.scope_table.specs.Seats.{key_of, scope_of, view}
use Rattle.dky_search.specs.Flying.{IsFlown}
use Rattle.dky_search.proofs.Flights.{flown_more, flown_start, is_hit, next_in, next_left}
use Rattle.dky_search.proofs.searching.fly.Goals as goal

pub loop-scope-init : goal.loop-scope-init
loop-scope-init c =
    record {
      same = (refl, refl);
      chain = refl;
      name = refl;
      flown = flown_start (key_of c.args.table.now) (scope_of c.args.seat.now) (view c.args.seat.now) c.args.flight.now c.requires.start;
      counted = omega arith;
    }

pub load-load-requires-clause-scope : goal.load-load-requires-clause-scope
load-load-requires-clause-scope c =
    next_in (scopes (key_of c.args.table.now)) c.loop-scope.flight c.in-Some.scope (subst (Each (λ s. s < scopes (key_of c.args.table.now))) (sym c.loop-scope.invariant.chain) c.requires.exist) (sym c.in-Some.ensures)

pub took-requires : goal.took-requires
took-requires c =
    let f = c.loop-scope.flight in let inv = c.loop-scope.invariant in let s = c.in-Some.scope in let l = c.load-load.ensures in let load = c.load-load.result in
    let scope : load.head.scope ≡ s = ap (λ (h : Head). h.scope) l.head in
    let name : f.name ≡ c.args.name = inv.name ∙ c.requires.name in record {
      next = sym c.in-Some.ensures ∙ ap Some (sym scope);
      hit = is_hit f.name s (shown_at (view c.load-load.new.seat) s) load.head load.hit l.head (subst (λ (x : ℕ). load.hit ≡ found_at s (first_named x (shown_at (view c.load-load.new.seat) s).rows 0)) (sym name) l.hit);
    }

pub loop-scope-preserved : goal.loop-scope-preserved
loop-scope-preserved c =
    let f = c.loop-scope.flight in let inv = c.loop-scope.invariant in let s = c.in-Some.scope in let l = c.load-load.ensures in let load = c.load-load.result in
    let a = key_of c.args.table.now in let own = scope_of c.args.seat.now in let v = view c.args.seat.now in let w = view c.loop-scope.seat in let w' = view c.load-load.new.seat in
    let name : f.name ≡ c.args.name = inv.name ∙ c.requires.name in
    let there : s < scopes a = next_in (scopes a) f s (subst (Each (λ s. s < scopes a)) (sym inv.chain) c.requires.exist) (sym c.in-Some.ensures) in
    let more : IsFlown a own v w' (with_load f load) =
    flown_more a own v w w' f s load inv.flown (sym c.in-Some.ensures) l.sees l.later (λ e. l.mine (e ∙ sym inv.same.1)) l.head
    (subst (λ (x : ℕ). load.hit ≡ found_at s (first_named x (shown_at w' s).rows 0)) (sym name) l.hit) l.formed there in record {
      same = (l.same.0 ∙ inv.same.0, l.same.1 ∙ inv.same.1);
      chain = ap (λ (x : Flown). x.chain) c.took.ensures ∙ inv.chain;
      name = ap (λ (x : Flown). x.name) c.took.ensures ∙ inv.name;
      flown = subst (IsFlown a own v w') (sym c.took.ensures) more;
      counted = (let m = l.counted in let n = inv.counted in omega arith);
    }

pub loop-scope-smaller : goal.loop-scope-smaller
loop-scope-smaller c =
    let f = c.loop-scope.flight in let load = c.load-load.result in
    let n : length c.took.new.self.loads ≡ length f.loads + 1 = ap (λ (x : Flown). length x.loads) c.took.ensures ∙ length-append f.loads (load ∷ []) in
    let m : length c.took.new.self.chain ≡ length f.chain = ap (λ (x : Flown). length x.chain) c.took.ensures in
    let less = next_left f c.in-Some.scope (sym c.in-Some.ensures) in omega (arith, n, m, less)
