-- A search between the loads of its heads, and looks that are lawful in tables.
use Rattle.std.specs.Prelude.{◌≡◌, ℕ, ◌<◌, ◌≤◌, false, List, [], ◌∷◌, ◌++◌, Option, Some, None, length, take}
use Rattle.std.specs.Prelude.{slice_get, slice_set, if◌then◌else◌}
use Rattle.m2_base.specs.declared.rows.Row.{Row}
use Rattle.m2_base.specs.declared.rows.Place.{Place}
use Rattle.m2_base.specs.Rows.{at_place}
use Rattle.m2_base.specs.declared.replies.Head.{Head}
use Rattle.m2_base.specs.declared.replies.Reply.{Reply}
use Rattle.m2_base.specs.declared.replies.Reply.TheVariants.{Found, Absent, DontKnowYet}
use Rattle.m2_base.specs.Lists.{Each}
use Rattle.m2_base.specs.Tables.{Table, table_at, first_named, one_thread}
use Rattle.m2_base.specs.Scopes.{IsTaken}
use Rattle.scope_core.specs.declared.flight.Load.{Load}

-- the reply from a load, and from the rest where its scope is complete without the name
abbrev pub reply_by : Option (Place × Row) → Head → Option Reply → Option Reply
reply_by (Some hit) h rest = Some (Found hit.0 hit.1)
reply_by None h rest = if h.complete then rest else Some (DontKnowYet h)

-- the reply of a search that took these loads, or none yet
abbrev pub reply_of : List ℕ → List Load → Option Reply
reply_of [] loads = Some Absent
reply_of (s ∷ chain) [] = None
reply_of (s ∷ chain) (l ∷ loads) = reply_by l.hit l.head (reply_of chain loads)

abbrev pub GoesOn : Option (Place × Row) → Head → List Load → Type 0
GoesOn (Some hit) h loads = loads ≡ []
GoesOn None h loads = (h.complete ≡ false) → loads ≡ []

-- each load is of its scope, and none comes after the reply
abbrev pub IsFlight : List ℕ → ℕ → List Load → Type 0
IsFlight chain name [] = Unit {0}
IsFlight [] name (l ∷ loads) = ⊥
IsFlight (s ∷ chain) name (l ∷ loads) = (l.head.scope ≡ s) × GoesOn l.hit l.head loads × IsFlight chain name loads

-- the heads that were loaded
abbrev pub heads_in : List Load → List Head
heads_in [] = []
heads_in (l ∷ loads) = l.head ∷ heads_in loads

-- a table as a head shows it
abbrev pub cut_table : Table → Head → Table
cut_table t h = record { rows = take h.count t.rows; complete = h.complete }

-- The tables as these heads show them: of each of their scopes the first rows, as many as the head counts,
-- with its mark.
abbrev pub cut : List Table → List Head → List Table
cut tables [] = tables
cut tables (h ∷ heads) = slice_set (cut tables heads) h.scope (cut_table (table_at tables h.scope) h)

-- a row that was found in scope s, with its place
abbrev pub found_at : ℕ → Option (ℕ × Row) → Option (Place × Row)
found_at s None = None
found_at s (Some hit) = Some (at_place s hit.0, hit.1)

-- a load is true of tables: its scope has so many rows, and its hit is what these hold
pub record IsTrueIn (tables : List Table) (name : ℕ) (l : Load) : Type 0 where
  pub exists : l.head.scope < length tables
  pub counted : l.head.count ≤ length (table_at tables l.head.scope).rows
  pub hit : l.hit ≡ found_at l.head.scope (first_named name (take l.head.count (table_at tables l.head.scope).rows) 0)

-- heads of one scope are equal
abbrev pub AreEqual : List Head → Type 0
AreEqual [] = Unit {0}
AreEqual (h ∷ heads) = Each (λ k. k.scope ≡ h.scope → k ≡ h) heads × AreEqual heads

-- a look is lawful in tables
pub record IsLawfulIn (tables : List Table) (chain : List ℕ) (name : ℕ) (heads : List Head)
    (reply : Reply) : Type 0 where
  pub taken : IsTaken chain heads reply
  pub answers : reply ≡ one_thread (cut tables heads) chain name

-- a search so far: its chain, its name, and what was loaded
pub record Flown : Type 0 where
  pub chain : List ℕ
  pub name : ℕ
  pub loads : List Load

abbrev pub next_by : Option Reply → Option ℕ → Option ℕ
next_by None next = next
next_by (Some r) next = None

-- the scope whose head is to be loaded
abbrev pub next_of : Flown → Option ℕ
next_of f = next_by (reply_of f.chain f.loads) (slice_get f.chain (length f.loads))

-- one more load
abbrev pub with_load : Flown → Load → Flown
with_load f l = record { chain = f.chain; name = f.name; loads = f.loads ++ l ∷ [] }

-- a hit is a row of the name that the head counts
abbrev pub IsHitOf : (name : ℕ) → Head → Option (Place × Row) → Type 0
IsHitOf name h None = Unit {0}
IsHitOf name h (Some hit) = (hit.0.scope ≡ h.scope) × (hit.0.ordinal < h.count) × (hit.1.name ≡ name)

-- what the code of a flight keeps
pub record IsFlying (chain : List ℕ) (name taken : ℕ) (loads : List Load) (reply : Option Reply) : Type 0 where
  pub short : length chain ≤ 18
  pub within : taken ≤ length chain
  pub flight : IsFlight chain name (take taken loads)
  pub hits : Each (λ l. IsHitOf name l.head l.hit) (take taken loads)
  pub reply_is : reply ≡ reply_of chain (take taken loads)
