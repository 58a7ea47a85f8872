-- What a clause says of a handle on the shared tables.
use Rattle.std.specs.Prelude.{◌≡◌, ◌≢◌, ◌+◌, ℕ, false, Option, Some, if◌then◌else◌, ltb, min}
use Rattle.m2_base.specs.States.{State, Mark, fills_of}
use Rattle.m2_base.specs.declared.replies.Ask.{Ask}
use Rattle.m2_base.specs.declared.replies.Ask.TheVariants.{Known, DontKnowYet as Waiting}
use Rattle.m2_base.specs.declared.replies.Reply.{Reply}
use Rattle.m2_base.specs.declared.replies.Reply.TheVariants.{DontKnowYet}
use Rattle.m2_base.specs.declared.rows.Row.{Row}
use Rattle.scope_table.specs.Seats.{view, scope_of, key_of}
use Rattle.scope_table.specs.declared.table.ScopeTable.{ScopeTable}
use Rattle.scope_table.specs.declared.view.About.{About}
use Rattle.scope_table.specs.declared.view.View.{View}
use Rattle.dky_search.specs.Seen.{state_in}
use Rattle.dky_search.specs.declared.seat_scopes.SeatScopes.{SeatScopes}

-- the table that the handle is over, and its key
abbrev pub table_in : SeatScopes → ScopeTable
table_in s = s.table.now

abbrev pub key_in : SeatScopes → About
key_in s = key_of (table_in s)

-- what it has seen, loaded and looked for
abbrev pub view_in : SeatScopes → View
view_in s = view s.seat

-- how many rows its searches and fetches have loaded
abbrev pub loaded_in : SeatScopes → ℕ
loaded_in s = s.rows_loaded

-- what it holds, as Scopes
abbrev pub state_of : SeatScopes → State
state_of s = state_in (key_in s) (view_in s) (scope_of s.seat)

-- the head at which a search stopped is of a scope that wasn't seen complete
abbrev pub StopsNew : State → Reply → Type 0
StopsNew old (DontKnowYet h) = (old.seen h.scope).complete ≡ false
StopsNew old other = Unit {0}

-- the head at which a fetch or a selection stopped is of a scope that wasn't seen complete
abbrev pub WaitsNew : {T : Type 0} → State → Ask T → Type 0
WaitsNew old (Waiting h) = (old.seen h.scope).complete ≡ false
WaitsNew old (Known there) = Unit {0}

-- what is known of a place stays so
abbrev pub StaysKnown : {T : Type 0} → Ask T → Ask T → Type 0
StaysKnown (Known there) later = later ≡ Known there
StaysKnown (Waiting h) later = Unit {0}

-- one row more was loaded where one was found; the count stands still at its last value
abbrev pub counted : Ask (Option Row) → ℕ → ℕ
counted (Known (Some r)) n = min (n + 1) 18446744073709551615
counted other n = n

-- the later of two heads of a scope
abbrev pub later_mark : Mark → Mark → Mark
later_mark m n = if m.complete then m else if n.complete then n else if ltb m.count n.count then n else m

-- A handle is told what another has seen: of each scope but its own it has afterwards seen the later of the two heads.
pub record IsTold (from old new : State) : Type 0 where
  pub frame : new.frame ≡ old.frame
  pub looks : new.looks ≡ old.looks
  pub own : new.seen (fills_of old) ≡ old.seen (fills_of old)
  pub others : (s : ℕ) → s ≢ fills_of old → new.seen s ≡ later_mark (old.seen s) (from.seen s)
