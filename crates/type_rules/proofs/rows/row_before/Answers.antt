use Rattle.std.proofs.Common.{◌≡◌, ◌∙◌, ◌<◌, ◌≤◌, ◌^◌, Fits, Option, None, Some, ap, arith, length, rules, subst, sym, w32}
use Rattle.std.specs.Option.{IfSome}
use Rattle.std.specs.Prelude.{slice_get}
use Rattle.std.proofs.lemmas.Option.{slice_get_past}
use Rattle.m2_base.specs.Rows.{row_meaning, Fits as FitsAt}
use Rattle.m2_base.specs.Scopes.{Fetched}
use Rattle.m2_base.specs.States.{Frame, State, Waits}
use Rattle.m2_base.specs.Tables.{rows_at}
use Rattle.m2_base.specs.declared.replies.Ask.{Ask}
use Rattle.m2_base.specs.declared.replies.Ask.TheVariants.{DontKnowYet, Known}
use Rattle.m2_base.specs.declared.rows.Place.{Place}
use Rattle.m2_base.specs.declared.rows.Row.{Row}
use Rattle.m2_base.specs.declared.sites.Around.{Around}
use Rattle.m2_base.proofs.RowLaws.{HasSmallNumbers-fits}
use Rattle.type_rules.specs.Asks.{WhereKnown, WhereWaiting}
use Rattle.type_rules.specs.Scenes.{IsRowOf, Suits, WhereTold, rows_of}
use Rattle.type_rules.proofs.Counting.{counted_below}
use Rattle.type_rules.proofs.Reading.{Reads-kept}
use Rattle.type_rules.proofs.rows.row_before.Goals as goal

-- a fetch from a scope before the own one
module _ (old new : State) (a : Around) (p : Place) (suits : Suits old.frame a) (before : p.scope < old.frame.setting.fills) where
  fetch_waits : (answer : Ask (Option Row)) → Fetched old new p answer → WhereWaiting answer (λ h. Waits old new h)
  fetch_waits (Known x) fetched = tt
  fetch_waits (DontKnowYet h) fetched =
      let on = fetched.says.on in
      let stops = fetched.says.stops in
      record { smaller = omega (arith, on, before); incomplete = stops.incomplete; from = stops.loaded.from; upto = stops.loaded.upto }

  fetch_on : (answer : Ask (Option Row)) → Fetched old new p answer → WhereWaiting answer (λ h. h.scope ≡ p.scope)
  fetch_on (Known x) fetched = tt
  fetch_on (DontKnowYet h) fetched = fetched.says.on

  fetch_stops : (answer : Ask (Option Row)) → Fetched old new p answer → WhereWaiting answer (λ h. h.count ≤ p.ordinal)
  fetch_stops (Known x) fetched = tt
  fetch_stops (DontKnowYet h) fetched = fetched.says.short

  fetch_named : (answer : Ask (Option Row)) → Fetched old new p answer → WhereKnown answer (λ row. IfSome row (λ r. r.name < length old.frame.setting.texts.names))
  fetch_named (Known (Some r)) fetched = subst (λ (f : Frame). r.name < length f.setting.texts.names) fetched.keeps.frame fetched.says.shown.formed.named
  fetch_named (Known None) fetched = tt
  fetch_named (DontKnowYet h) fetched = tt

  fetch_row : (answer : Ask (Option Row)) → p.scope < 2 ^ 32 → p.ordinal < 2 ^ 32 → Fetched old new p answer → WhereKnown answer (λ row. IfSome row (λ r. IsRowOf old.frame p r))
  fetch_row (Known (Some r)) s o fetched =
      let names = length old.frame.setting.texts.names in
      let fits : FitsAt names p (row_meaning r) = subst (λ (f : Frame). FitsAt (length f.setting.texts.names) p (row_meaning r)) fetched.keeps.frame fetched.says.shown.formed.fits in
      record {
        there = record { scope = omega (arith, before); entered = λ same open_yet. absurd (omega (arith, same, before)) };
        said = record { fits = fits; small = HasSmallNumbers-fits names p (row_meaning r) suits.names s o fits };
      }
  fetch_row (Known None) s o fetched = tt
  fetch_row (DontKnowYet h) s o fetched = tt

  fetch_told : (answer : Ask (Option Row)) → Fetched old new p answer → WhereTold old.frame (λ made. WhereKnown answer (λ row. row ≡ slice_get (rows_at (rows_of old.frame made) p.scope) p.ordinal))
  fetch_told (Known (Some r)) fetched made in_hand told =
      sym (ap (λ rows. slice_get rows p.ordinal) (counted_below old.frame made p.scope (suits.told made.finished told) before) ∙ fetched.says.told made.finished told)
  fetch_told (Known None) fetched made in_hand told =
      sym (ap (λ rows. slice_get rows p.ordinal) (counted_below old.frame made p.scope (suits.told made.finished told) before)
      ∙ slice_get_past (rows_at made.finished p.scope) p.ordinal (fetched.says.told made.finished told))
  fetch_told (DontKnowYet h) fetched made in_hand told = tt

pub fetch-requires : goal.fetch-requires
fetch-requires g c =
    let before = c.requires.before in
    let exist = c.requires.suits.exist in
    omega (arith, before, exist)

pub returns : goal.returns
returns g c =
    let old = g.S.Scopes.state c.args.scopes.now in
    let new = g.S.Scopes.state c.fetch.new.self in
    let a = c.args.around.now in
    let p = c.args.place in
    let suits = c.requires.suits in
    let before = c.requires.before in
    let answer = c.fetch.result in
    let fetched = c.fetch.ensures in
    let s : Fits w32 p.scope = search rules in
    let o : Fits w32 p.ordinal = search rules in
    record {
      reads = Reads-kept fetched.keeps;
      waits = fetch_waits old new a p suits before answer fetched;
      told = fetch_told old new a p suits before answer fetched;
      row = fetch_row old new a p suits before answer s.fits o.fits fetched;
      named = fetch_named old new a p suits before answer fetched;
      of = fetch_on old new a p suits before answer fetched;
      stops = fetch_stops old new a p suits before answer fetched;
    }
