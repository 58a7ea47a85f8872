-- What the work on a unit leaves.
use Rattle.std.specs.Prelude.{◌≡◌, true, List, Option, Some, map}
use Rattle.m2_base.specs.Finished.{WhereFinished}
use Rattle.m2_base.specs.Lists.{Each}
use Rattle.m2_base.specs.States.{IsAmong, State, fills_of, texts_of}
use Rattle.m2_base.specs.Tables.{rows_at}
use Rattle.m2_base.specs.Units.{UnitTexts}
use Rattle.m2_base.specs.declared.outputs.Output.{Output}
use Rattle.scope_core.specs.Fronts.{ShowsFront}
use Rattle.scope_table.specs.declared.table.ScopeTable.{ScopeTable}
use Rattle.dky_search.specs.Seen.{look_of}
use Rattle.dky_search.specs.SeatScopes.{state_of, table_in, view_in}
use Rattle.dky_search.specs.declared.seat_scopes.SeatScopes.{SeatScopes}
use Rattle.stream_split.specs.Streams.{StreamOf}
use Rattle.task_state.specs.Progress.{IsAsFar, IsLeft}
use Rattle.task_state.specs.declared.task.Task.{Task}
use Rattle.unit_tasks.specs.Outputs.{IsOutputIn}
use Rattle.unit_workers.specs.declared.finishing.Finished.{Finished}

-- what a task leaves that is done, and the handle that it had, on this table
pub record IsEnd (table : Option ScopeTable) (st : State) (t : Task) (f : Finished SeatScopes) : Type 0 where
  pub table_is : table ≡ Some (table_in f.scopes)
  pub state_is : state_of f.scopes ≡ st
  pub front : ShowsFront (state_of f.scopes)
  pub left : (at : State) → IsAsFar at t → IsLeft at t f.output

-- What a stream of a unit leaves: its output, and the handle on the table that has filled its scope. The scope is
-- complete; where the unit has finished rows, all of its rows are entered.
-- Each answer of the output is the reply of a look of this very handle.
pub record IsFinished (t : ScopeTable) (u : UnitTexts) (s : StreamOf) (f : Finished SeatScopes) : Type 0 where
  pub output : IsOutputIn u s f.output
  pub table : table_in f.scopes ≡ t
  pub texts : texts_of (state_of f.scopes) ≡ u
  pub fills : fills_of (state_of f.scopes) ≡ s.stream
  pub closed : (state_of f.scopes).frame.closed ≡ true
  pub rows : WhereFinished u (λ tables. (state_of f.scopes).frame.entered ≡ rows_at tables s.stream)
  pub shown : Each (IsAmong (map look_of (view_in f.scopes).looks)) f.output.answers.items

-- the outputs alone
abbrev pub outputs_in : List (Finished SeatScopes) → List Output
outputs_in all = map (λ f. f.output) all
