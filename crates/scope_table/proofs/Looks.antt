-- A search that may be noted is a lawful look.
use Rattle.std.proofs.Common.{◌≡◌, ℕ, Bool, true, false, Option, Some, None, List, [], ◌∷◌, take, sym, refl, ap, ◌∙◌, subst, inl, inr, ◌⊎◌, if◌then◌else◌}
use Rattle.std.specs.Prelude.{unwrap_or}
use Rattle.std.proofs.lemmas.Option.{none-some}
use Rattle.m2_base.specs.Lists.{Each}
use Rattle.m2_base.specs.Scopes.{IsTaken, EndsAt}
use Rattle.m2_base.specs.Tables.{first_named, reply_or}
use Rattle.m2_base.specs.declared.rows.Row.{Row}
use Rattle.m2_base.specs.declared.rows.Place.{Place}
use Rattle.m2_base.specs.declared.replies.Head.{Head}
use Rattle.m2_base.specs.declared.replies.Reply.{Reply}
use Rattle.m2_base.specs.declared.replies.Reply.TheVariants.{Absent, DontKnowYet}
use Rattle.scope_core.specs.Flights.{Flown, reply_of, reply_by, heads_in, found_at}
use Rattle.scope_core.specs.declared.flight.Load.{Load}
use Rattle.scope_table.specs.Rule.{scopes, shown_at, replied, WasShown, IsLawful}
use Rattle.scope_table.specs.Looks.{look_of, IsLoadOf, CanNote}
use Rattle.scope_table.specs.declared.view.Shown.{Shown}
use Rattle.scope_table.specs.declared.view.About.{About}
use Rattle.scope_table.specs.declared.view.View.{View}

-- what is left of a look behind a head, where the reply isn't of that head
left_over : (chain : List ℕ) (h : Head) (loads : List Load) (r : Reply) → heads_in loads ≡ [] → EndsAt h r → reply_of chain loads ≡ Some r → h.complete ≡ true → ⊥
left_over [] h loads r none ends e done = let is : Absent ≡ r = cc in subst (EndsAt h) (sym is) ends
left_over (s ∷ chain) h [] r none ends e done = none-some r e
left_over (s ∷ chain) h (l ∷ loads) r none ends e done = absurd (cc)

-- the reply of a search is what the rows that its heads count answer
module _ (T : ℕ → Shown) (x : ℕ) where
  abbrev IsHitIn : Load → Type 0
  IsHitIn l = l.hit ≡ found_at l.head.scope (first_named x (take l.head.count (T l.head.scope).rows) 0)

  step : (chain : List ℕ) (h : Head) (loads : List Load) (r : Reply) (fo : Option (ℕ × Row)) → ((h.complete ≡ true) × IsTaken chain (heads_in loads) r) ⊎ ((heads_in loads ≡ []) × EndsAt h r) → reply_by (found_at h.scope fo) h (reply_of chain loads) ≡ Some r
      → (IsTaken chain (heads_in loads) r → reply_of chain loads ≡ Some r → r ≡ replied T (heads_in loads) x) → r ≡ reply_or h fo (replied T (heads_in loads) x)
  step chain h loads r (Some hit) taken e rest = cc
  step chain h loads r None taken e rest = go h.complete refl e taken
    where
      go : (b : Bool) → h.complete ≡ b → (if b then reply_of chain loads else Some (DontKnowYet h)) ≡ Some r → ((h.complete ≡ true) × IsTaken chain (heads_in loads) r) ⊎ ((heads_in loads ≡ []) × EndsAt h r) → r ≡ (if b then replied T (heads_in loads) x else DontKnowYet h)
      go true done f (inl t) = rest t.1 f
      go true done f (inr t) = absurd (left_over chain h loads r t.0 t.1 f done)
      go false still f t = cc

  pub flown_replied : (chain : List ℕ) (loads : List Load) (r : Reply) → IsTaken chain (heads_in loads) r → reply_of chain loads ≡ Some r → Each IsHitIn loads → r ≡ replied T (heads_in loads) x
  flown_replied [] [] r taken e hits = taken.1
  flown_replied [] (l ∷ loads) r taken e hits = absurd (cc)
  flown_replied (s ∷ chain) [] r taken e hits = absurd taken
  flown_replied (s ∷ chain) (l ∷ loads) r taken e hits =
      step chain l.head loads r (first_named x (take l.head.count (T l.head.scope).rows) 0) taken.1 (subst (λ (o : Option (Place × Row)). reply_by o l.head (reply_of chain loads) ≡ Some r) hits.0 e) (λ t f. flown_replied chain loads r t f hits.1)

each_shown : (a : About) (v : View) (x : ℕ) (loads : List Load) → Each (IsLoadOf a v x) loads → Each (WasShown (scopes a) (shown_at v)) (heads_in loads)
each_shown a v x [] h = tt
each_shown a v x (l ∷ loads) h = (h.0.shown, each_shown a v x loads h.1)

each_hit : (a : About) (v : View) (x : ℕ) (loads : List Load) → Each (IsLoadOf a v x) loads → Each (λ l. l.hit ≡ found_at l.head.scope (first_named x (take l.head.count (shown_at v l.head.scope).rows) 0)) loads
each_hit a v x [] h = tt
each_hit a v x (l ∷ loads) h = (h.0.hit, each_hit a v x loads h.1)

pub lawful_flight : (a : About) (v : View) (at : ℕ) (f : Flown) → CanNote a v f → IsLawful (scopes a) (shown_at v) (look_of at f)
lawful_flight a v at f can = let is : unwrap_or (reply_of f.chain f.loads) Absent ≡ can.reply = ap (λ (o : Option Reply). unwrap_or o Absent) can.has in record {
  shown = each_shown a v f.name f.loads can.loads;
  taken = subst (IsTaken f.chain (heads_in f.loads)) (sym is) can.taken;
  reply = is ∙ flown_replied (shown_at v) f.name f.chain f.loads can.reply can.taken can.has (each_hit a v f.name f.loads can.loads);
}
