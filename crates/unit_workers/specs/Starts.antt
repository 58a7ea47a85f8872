-- How the work on a unit begins.
use Rattle.std.specs.Prelude.{◌≡◌, ◌≢◌, false, [], ◌∷◌, List}
use Rattle.m2_base.specs.States.{State, fills_of}
use Rattle.m2_base.specs.Units.{UnitTexts}
use Rattle.scope_table.specs.Seats.{IsOf, IsOpened, key_of, scope_of, view}
use Rattle.scope_table.specs.declared.table.ScopeTable.{ScopeTable}
use Rattle.scope_table.specs.declared.table.TableSeat.{TableSeat}
use Rattle.dky_search.specs.Seen.{state_in}
use Rattle.stream_split.specs.Sizes.{sizes_of}
use Rattle.stream_split.specs.Streams.{StreamOf, streams_of}
use Rattle.task_state.specs.Progress.{is_over}
use Rattle.task_state.specs.declared.task.Task.{Task}
use Rattle.unit_workers.specs.Jobs.{Fits}

-- The table is opened for a unit, with the room that its streams ask, and these are its seats without that of scope 0,
-- as they were given.
pub record AreOthers (t : ScopeTable) (u : UnitTexts) (seats : List TableSeat) : Type 0 where
  pub zero : TableSeat
  pub opened : IsOpened t (zero ∷ seats) u (sizes_of (streams_of u))

-- a seat of the table that nothing was put through, and not that of scope 0
pub record IsUnused (t : ScopeTable) (s : TableSeat) : Type 0 where
  pub table : IsOf t s
  pub inner : scope_of s ≢ 0
  pub none_put : (view s).put ≡ []

-- what a handle with this seat holds
abbrev pub first_state : ScopeTable → TableSeat → State
first_state t s = state_in (key_of t) (view s) (scope_of s)

-- the job of a stream of a unit, of which no turn is made
pub record IsBegun (u : UnitTexts) (s : StreamOf) (st : State) (t : Task) : Type 0 where
  pub fills : fills_of st ≡ s.stream
  pub undone : is_over t ≡ false
  pub fits : Fits u st t
