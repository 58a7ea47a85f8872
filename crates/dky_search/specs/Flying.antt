-- A search on its way through the shared tables.
use Rattle.std.specs.Prelude.{◌≡◌, ℕ, ◌<◌, ◌++◌, List, [], ◌∷◌, Option, Some, None, map, length}
use Rattle.m2_base.specs.Lists.{Each, IsIn}
use Rattle.m2_base.specs.Rows.{IsWellFormed}
use Rattle.m2_base.specs.Tables.{first_named}
use Rattle.m2_base.specs.declared.rows.Row.{Row}
use Rattle.m2_base.specs.declared.rows.Place.{Place}
use Rattle.scope_core.specs.Flights.{Flown, IsFlight, heads_in, found_at}
use Rattle.scope_core.specs.declared.flight.Load.{Load}
use Rattle.scope_table.specs.Looks.{look_of}
use Rattle.scope_table.specs.Plays.{head_in, notes}
use Rattle.scope_table.specs.Rule.{scopes, shown_at, texts_in, IsBefore}
use Rattle.scope_table.specs.declared.view.About.{About}
use Rattle.scope_table.specs.declared.view.View.{View}

-- what was loaded is what the view has now seen: the head of its scope, and the first row of the name
pub record IsCurrent (v : View) (name : ℕ) (l : Load) : Type 0 where
  pub head : l.head ≡ head_in l.head.scope (shown_at v l.head.scope)
  pub hit : l.hit ≡ found_at l.head.scope (first_named name (shown_at v l.head.scope).rows 0)

-- the row that was found is well formed at its place
abbrev pub IsFormed : (names : ℕ) → Option (Place × Row) → Type 0
IsFormed names None = Unit {0}
IsFormed names (Some hit) = IsWellFormed names hit.0 hit.1

-- A search has gone on from the view v to the view w: all that it has loaded is what w has seen, and of other scopes w
-- has seen what v had. Of the own scope v had seen all.
pub record IsFlown (a : About) (own : ℕ) (v w : View) (f : Flown) : Type 0 where
  pub about : w.about ≡ v.about
  pub put : w.put ≡ v.put
  pub looks : w.looks ≡ v.looks
  pub loads : w.loads ≡ v.loads ++ heads_in f.loads
  pub later : (j : ℕ) → IsBefore (shown_at v j) (shown_at w j)
  pub elsewhere : (j : ℕ) → (IsIn j (map (λ h. h.scope) (heads_in f.loads)) → ⊥) → shown_at w j ≡ shown_at v j
  pub mine : shown_at w own ≡ shown_at v own
  pub flight : IsFlight f.chain f.name f.loads
  pub exist : Each (λ l. l.head.scope < scopes a) f.loads
  pub current : Each (IsCurrent w f.name) f.loads
  pub formed : Each (λ l. IsFormed (length (texts_in a).names) l.hit) f.loads

-- the search is noted, if there was a scope to be searched
abbrev pub noted_by : (at : ℕ) → Flown → (chain : List ℕ) → View → View
noted_by at f [] v = v
noted_by at f (s ∷ chain) v = notes v (look_of at f)
