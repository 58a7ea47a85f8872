use Rattle.std.proofs.Common.{◌≡◌, ℕ, ◌<◌, List, length, sym, refl, ap, ◌∙◌, subst}
use Rattle.m2_base.specs.Lists.{Each}
use Rattle.scope_core.specs.Flights.{Flown}
use Rattle.scope_table.specs.Rule.{scopes}
use Rattle.scope_table.specs.Seats.{scope_of, view}
use Rattle.dky_search.specs.Seen.{tables_in}
use Rattle.dky_search.specs.SeatScopes.{key_in, view_in}
use Rattle.dky_search.proofs.Flights.{can_note}
use Rattle.dky_search.proofs.Lawful.{look_lawful}
use Rattle.dky_search.proofs.Seen.{length-areas}
use Rattle.dky_search.proofs.Sought.{IsSought, sought_of}
use Rattle.dky_search.proofs.seat_scopes.SeatScopesScopes.search.Goals as goal

pub fly-requires-clause-exist : goal.fly-requires-clause-exist
fly-requires-clause-exist c =
    let a = key_in c.args.self.now in
    subst (Each (λ s. s < scopes a)) (sym (ap (λ (f : Flown). f.chain) c.start-flight.ensures)) (subst (λ (n : ℕ). Each (λ s. s < n) c.args.chain.now) (length-areas a) c.requires.exist)

pub note-requires-clause-can : goal.note-requires-clause-can
note-requires-clause-can c some =
    let s = c.args.self.now in let f = c.fly.new.flight in
    let chain : f.chain ≡ c.args.chain.now = c.fly.ensures.chain ∙ ap (λ (x : Flown). x.chain) c.start-flight.ensures in
    can_note (key_in s) (scope_of s.seat) (view_in s) (view c.fly.new.seat) f c.in-Some.reply c.fly.ensures.flown (sym c.in-Some.ensures.reply) (c.in-Some.ensures.taken c.in-Some.reply refl) (subst (λ (l : List ℕ). 0 < length l) (sym chain) some)

pub returns : goal.returns
returns c =
    let s = c.args.self.now in let f = c.fly.new.flight in let whole = c.scope-whole.ensures.whole in
    let chain : f.chain ≡ c.args.chain.now = c.fly.ensures.chain ∙ ap (λ (x : Flown). x.chain) c.start-flight.ensures in
    let name : f.name ≡ c.args.name = c.fly.ensures.name ∙ ap (λ (x : Flown). x.name) c.start-flight.ensures in
    let all : IsSought (key_in s) (scope_of s.seat) (scope_of c.note.new.seat) (view_in s) (view c.note.new.seat) c.args.at c.args.chain.now c.args.name c.in-Some.reply =
    sought_of (key_in s) (scope_of s.seat) (scope_of c.note.new.seat) (view_in s) (view c.fly.new.seat) (view c.note.new.seat) f c.args.at c.in-Some.reply c.args.chain.now c.args.name chain name
    c.fly.ensures.flown (sym c.in-Some.ensures.reply) s.is.1 (c.note.ensures.same.1 ∙ c.fly.ensures.same.1) c.note.ensures.noted whole.wide whole.sound in record {
      searched = all.searched;
      answer = all.answer;
      loads = all.loads;
      look = all.look;
      lawful = λ after more. look_lawful (tables_in (view c.note.new.seat)) after c.args.at c.args.chain.now c.args.name c.in-Some.reply all.answer more;
      stops = all.stops;
      grown = all.grown;
      stays = all.stays;
      table = refl;
      counted = c.fly.ensures.counted;
    }
