-- Events, runs of them, and what they leave of tables.
use Rattle.std.specs.Prelude.{◌≡◌, ◌≢◌, ℕ, ◌<◌, ◌≤◌, ◌^◌, false, List, [], ◌∷◌, ◌++◌, length}
use Rattle.m2_base.specs.Lists.{HasNoRepeats, Each}
use Rattle.m2_base.specs.Tables.{Table, table_at}
use Rattle.m2_base.specs.declared.replies.Reply.{Reply}
use Rattle.m2_base.specs.declared.replies.Reply.TheVariants.{Found, Absent, DontKnowYet}
use Rattle.scope_core.specs.Kept.{with_rows, completed}
use Rattle.scope_core.specs.declared.event.Event.{Event}
use Rattle.scope_core.specs.declared.event.Event.TheVariants.{Enter, Complete}

-- the scope is there, and isn't complete
abbrev pub IsOpen : List Table → ℕ → Type 0
IsOpen tables s = (s < length tables) × ((table_at tables s).complete ≡ false)

-- An event may happen in these tables: its scope is open, and the names of its rows are new there and differ.
abbrev pub IsLawful : List Table → Event → Type 0
IsLawful tables (Enter s rows) = IsOpen tables s × HasNoRepeats (λ r. r.name) ((table_at tables s).rows ++ rows.items)
IsLawful tables (Complete s) = IsOpen tables s

-- the tables after an event
abbrev pub after : List Table → Event → List Table
after tables (Enter s rows) = with_rows tables s rows.items
after tables (Complete s) = completed tables s

-- the tables after a run
abbrev pub after_all : List Table → List Event → List Table
after_all tables [] = tables
after_all tables (e ∷ run) = after_all (after tables e) run

-- each event of a run is lawful where it comes
abbrev pub IsRun : List Table → List Event → Type 0
IsRun tables [] = Unit {0}
IsRun tables (e ∷ run) = IsLawful tables e × IsRun (after tables e) run

-- no scope has more than 4294967295 rows
abbrev pub AreCountable : List Table → Type 0
AreCountable tables = (s : ℕ) → length (table_at tables s).rows < 2 ^ 32

-- when a name may be looked up in a chain: it is short, its scopes are there, and the name is one
pub record CanLook (tables : List Table) (chain : List ℕ) (name : ℕ) : Type 0 where
  pub short : length chain ≤ 18
  pub exist : Each (λ s. s < length tables) chain
  pub named : name ≢ 0

-- a found row or an absence is the later reply, too
abbrev pub Stays : Reply → Reply → Type 0
Stays (Found p r) later = later ≡ Found p r
Stays Absent later = later ≡ Absent
Stays (DontKnowYet h) later = Unit {0}

-- a run stopped after some of its events
pub record IsPartOf (old new : List Table) (run : List Event) : Type 0 where
  pub done : List Event
  pub rest : List Event
  pub whole : done ++ rest ≡ run
  pub tables : new ≡ after_all old done
