-- What is made of a unit's streams before the first turn.
use Rattle.std.specs.Prelude.{◌≡◌, [], List, false}
use Rattle.std.specs.List.{AllZip, zip}
use Rattle.m2_base.specs.States.{State}
use Rattle.m2_base.specs.Units.{UnitTexts}
use Rattle.m2_base.specs.declared.sites.Around.{Around}
use Rattle.stream_split.specs.Sizes.{sizes_of}
use Rattle.stream_split.specs.Streams.{StreamOf, streams_of}
use Rattle.stream_split.specs.Views.{stream_view}
use Rattle.stream_split.specs.declared.streams.StreamTokens.{StreamTokens}
use Rattle.task_state.specs.Progress.{IsAsFar}
use Rattle.task_state.specs.Units.{IsOfUnit}
use Rattle.task_state.specs.declared.task.Task.{Task}

-- the task stands at this stream, and has done nothing
abbrev pub IsNew : StreamOf → Around → Task → Type 0
IsNew s a t = (st : State) → IsOfUnit st.frame.setting s a → st.frame.entered ≡ [] → st.frame.closed ≡ false
    → IsAsFar st t

-- each task is that of the stream at its place, whose block is surrounded so
abbrev pub AreNew : List StreamTokens → List Around → List Task → Type 0
AreNew streams arounds tasks = AllZip (λ p t. IsNew (stream_view p.0) p.1 t) (zip streams arounds) tasks

-- A scope is that of this stream of a unit, has the room that the unit's streams ask, and nothing is entered there.
pub record IsEmptyFor (u : UnitTexts) (s : StreamOf) (st : State) : Type 0 where
  pub texts : st.frame.setting.texts ≡ u
  pub fills : st.frame.setting.fills ≡ s.stream
  pub areas : st.frame.setting.areas ≡ sizes_of (streams_of u)
  pub entered : st.frame.entered ≡ []
  pub closed : st.frame.closed ≡ false

-- the task stands at this stream of a unit, and has done nothing, whatever holds the scopes
abbrev pub StartsIn : UnitTexts → StreamOf → Task → Type 0
StartsIn u s t = (st : State) → IsEmptyFor u s st → IsAsFar st t
