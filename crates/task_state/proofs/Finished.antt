-- What a task that is done leaves.
use Rattle.std.specs.Prelude.{◌≡◌, true}
use Rattle.std.proofs.Common.{subst}
use Rattle.m2_base.specs.States.{Frame, State}
use Rattle.m2_base.specs.declared.outputs.Output.{Output}
use Rattle.m2_base.specs.declared.sites.Around.{Around}
use Rattle.stream_split.specs.Streams.{StreamOf}
use Rattle.task_state.specs.Progress.{AreShown, IsAsFar, IsAtStage, IsLeft, is_ended, is_over}
use Rattle.task_state.specs.declared.stages.Stage.{Stage}
use Rattle.task_state.specs.declared.stages.Stage.TheVariants.{Ended, Unread, Working}
use Rattle.task_state.specs.declared.task.Task.{Task}

pub is_left : (st : State) (t : Task) (o : Output) → t.stage ≡ Ended o → IsAsFar st t → IsLeft st t o
is_left st t o ends far =
    record {
      stream = far.stream;
      number = far.number;
      of_unit = far.of_unit;
      ended = subst (λ (s : Stage). IsAtStage st.frame far.stream t.around s) ends far.at_stage;
      shown = subst (λ (s : Stage). AreShown st s) ends far.shown;
    }

closed_at : (f : Frame) (s : StreamOf) (a : Around) (stage : Stage) → is_ended stage ≡ true → IsAtStage f s a stage → f.closed ≡ true
closed_at f s a (Ended o) e h = h.closed
closed_at f s a (Unread tokens) e h = absurd (cc)
closed_at f s a (Working w) e h = absurd (cc)

-- the scope of a task that is done is complete
pub over_closed : (st : State) (t : Task) → IsAsFar st t → is_over t ≡ true → st.frame.closed ≡ true
over_closed st t far over = closed_at st.frame far.stream t.around t.stage over far.at_stage
