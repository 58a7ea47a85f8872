-- How far the work on a unit is: its tasks, and the scopes of one thread that they fill.
use Rattle.std.specs.Prelude.{◌≡◌, ◌≢◌, ℕ, ◌+◌, ◌<◌, ◌^◌, true, List, Some, length, slice_get}
use Rattle.m2_base.specs.Finished.{WhereFinished}
use Rattle.m2_base.specs.States.{IsLater, State, mark_of}
use Rattle.m2_base.specs.Tables.{head_of, rows_at, table_at}
use Rattle.m2_base.specs.Units.{UnitTexts}
use Rattle.m2_base.specs.declared.outputs.Output.{Output}
use Rattle.scope_core.specs.Fronts.{ShowsFront}
use Rattle.scope_core.specs.PlainScopes.{Plain, moved, standard_table, started, state_of}
use Rattle.stream_split.specs.Sizes.{sizes_of}
use Rattle.stream_split.specs.Streams.{streams_of}
use Rattle.task_state.specs.Progress.{Ends, IsAsFar, IsLeft, is_over}
use Rattle.task_state.specs.declared.task.Task.{Task}
use Rattle.task_state.specs.declared.task.Turn.{Turn}

-- the scopes of one thread for a unit, in which nothing is entered yet
abbrev pub first_scopes : UnitTexts → Plain
first_scopes u = started u (sizes_of (streams_of u))

-- the scopes, as the task at this place fills them
abbrev pub state_at : Plain → ℕ → State
state_at p k = state_of (moved p (k + 1))

-- The scopes are those of the unit, with the room that its streams ask. Scope 0 has the standard rows, and each other
-- has a front of its finished rows, if the unit has such. There is a task for each stream,
-- and it is as far as its scope.
pub record IsStand (u : UnitTexts) (p : Plain) (tasks : List Task) : Type 0 where
  pub texts : p.texts ≡ u
  pub areas : p.areas ≡ sizes_of (streams_of u)
  pub standard : table_at p.tables 0 ≡ standard_table
  pub fronts : (k : ℕ) → k < length tasks → ShowsFront (state_at p k)
  pub count : length tasks ≡ length (streams_of u)
  pub few : length tasks < 2 ^ 31
  pub far : (k : ℕ) (t : Task) → slice_get tasks k ≡ Some t → IsAsFar (state_at p k) t

-- the tasks before this place are done
abbrev pub AreOverBefore : ℕ → List Task → Type 0
AreOverBefore n tasks = (k : ℕ) (t : Task) → k < n → slice_get tasks k ≡ Some t → is_over t ≡ true

-- all of them are
abbrev pub AreOver : List Task → Type 0
AreOver tasks = AreOverBefore (length tasks) tasks

-- a task leaves this output, wherever its scopes are
abbrev pub Leaves : Task → Output → Type 0
Leaves t o = (st : State) → IsAsFar st t → IsLeft st t o

-- nothing is taken back of what is entered, and no other texts or rooms come
pub record HasGrown (p q : Plain) : Type 0 where
  pub texts : q.texts ≡ p.texts
  pub areas : q.areas ≡ p.areas
  pub heads : (s : ℕ) → IsLater (mark_of (head_of s (table_at p.tables s))) (mark_of (head_of s (table_at q.tables s)))

-- A turn was made of the task at this place, which ended so; the other tasks are as before.
pub record IsTurned (p q : Plain) (place : ℕ) (old new : List Task) (turn : Turn) : Type 0 where
  pub others : (k : ℕ) → k ≢ place → slice_get new k ≡ slice_get old k
  pub ends : (t : Task) → slice_get new place ≡ Some t → Ends (state_at p place) (state_at q place) t turn

-- Every scope is complete, and has its finished rows, if the unit has such.
pub record AreFull (p : Plain) : Type 0 where
  pub complete : (s : ℕ) → s < length p.areas → (table_at p.tables s).complete ≡ true
  pub rows : WhereFinished p.texts
      (λ tables. (s : ℕ) → s < length p.areas → (table_at p.tables s).rows ≡ rows_at tables s)
