-- How far a task is: what a turn needs and leaves.
use Rattle.std.specs.Prelude.{◌≡◌, ℕ, ◌+◌, ◌≤◌, Bool, true, false, List, [], ◌++◌, Option, None, filter, length, Some}
use Rattle.std.specs.Prelude.{take}
use Rattle.std.specs.Option.{IfSome}
use Rattle.m2_base.specs.Finished.{WhereFinished, source_of}
use Rattle.m2_base.specs.Lists.{Each, WhereKept}
use Rattle.m2_base.specs.Rows.{row_meaning}
use Rattle.m2_base.specs.States.{Frame, IsAmong, State, Waits}
use Rattle.m2_base.specs.Statics.BlockRows.{declare_block}
use Rattle.m2_base.specs.Statics.Blocks.{BlockTree}
use Rattle.m2_base.specs.Statics.Cells.{most_cells}
use Rattle.m2_base.specs.Statics.Closing.{closing_diags}
use Rattle.m2_base.specs.Statics.Contexts.{Source}
use Rattle.m2_base.specs.Statics.Items.{items_of}
use Rattle.m2_base.specs.Statics.Layouts.{laid_shapes, layout_of}
use Rattle.m2_base.specs.Statics.ProcedureRows.{is_proc}
use Rattle.m2_base.specs.Statics.UnitNotes.{complete_context}
use Rattle.m2_base.specs.Trees.{Stream}
use Rattle.m2_base.specs.Views.{stream_view}
use Rattle.m2_base.specs.declared.notes.Answer.{Answer}
use Rattle.m2_base.specs.declared.outputs.Output.{Output}
use Rattle.m2_base.specs.declared.rows.Row.{Row}
use Rattle.m2_base.specs.declared.sites.Around.{Around}
use Rattle.m2_base.specs.declared.sites.Named.{Named}
use Rattle.m2_base.specs.declared.token.Token.{Token}
use Rattle.m2_base.specs.declared.trees.declarations.Stream.{Stream as HeldStream}
use Rattle.decl_sem.specs.LaidRows.{AreLaid}
use Rattle.decl_sem.specs.Layouts.{IsLayoutAt}
use Rattle.decl_sem.specs.Pieces.{IsOwned}
use Rattle.stmt_sem.specs.Bodies.{IsBuilt}
use Rattle.type_rules.specs.Scenes.{IsThere}
use Rattle.stream_split.specs.Agreement.{SpellsStream}
use Rattle.stream_split.specs.Chains.{around_view}
use Rattle.stream_split.specs.Streams.{StreamOf}
use Rattle.task_state.specs.Blocks.{IsBlockOf, block_with}
use Rattle.task_state.specs.Collecting.{Collected, IsMade, none_from}
use Rattle.task_state.specs.Outputs.{IsOutput}
use Rattle.task_state.specs.Units.{IsOfUnit}
use Rattle.task_state.specs.declared.stages.Begun.{Begun}
use Rattle.task_state.specs.declared.stages.Stage.{Stage}
use Rattle.task_state.specs.declared.stages.Stage.TheVariants.{Ended, Unread, Working}
use Rattle.task_state.specs.declared.stages.Stating.{Stating}
use Rattle.task_state.specs.declared.task.Task.{Task}
use Rattle.task_state.specs.declared.task.Turn.{Turn}
use Rattle.task_state.specs.declared.task.Turn.TheVariants.{Done, Memory, Parked}

-- ** The block

-- So many of its items are entered, with what each has brought, as the layout gives them, each field before its
-- record. Where no text has a syntax error, their rows and what was collected of them are the definition's.
pub record HasDeclared (f : Frame) (a : Around) (tree : Stream) (m : Collected) : Type 0 where
  pub within : m.count ≤ length (items_of tree)
  pub brought : List (List Named)
  pub of_each : length brought ≡ m.count
  pub layout : IsLayoutAt m.layout tree brought
  pub laid : AreLaid m.layout 0 (laid_shapes (take m.count (items_of tree)) brought) f.entered
  pub owned : Each (λ r. IsOwned (length f.entered) (row_meaning r)) f.entered
  pub cells : m.cell ≤ most_cells + 1
  pub procedures : m.procedures ≡ length (filter is_proc f.entered)
  pub there : IfSome m.returns (λ t. IsThere f t)
  pub told : WhereFinished f.setting.texts
      (λ tables. IsMade (source_of f.setting.texts) (take f.setting.fills tables) (block_with a tree) f.entered m)

-- What was noted of the complete block, and the statements that its body has, are the definition's.
pub record IsStated (source : Source) (tables : List (List Row)) (b : BlockTree) (x : Stating) : Type 0 where
  pub closing : x.closing.items ≡ closing_diags (complete_context source tables b.block) b.tree
  pub built : IsBuilt (complete_context source tables b.block) b.tree
      (declare_block source (take b.block.scope tables) b).value x.body

-- So many of its statements are made.
pub record HasStated (f : Frame) (a : Around) (tree : HeldStream) (x : Stating) : Type 0 where
  pub within : x.body.count ≤ length tree.body.items
  pub told : WhereFinished f.setting.texts
      (λ tables. IsStated (source_of f.setting.texts) tables (block_with a (stream_view tree)) x)

-- Before the first cell of its variables is known nothing is entered, and nothing collected.
pub record IsUnplaced (f : Frame) (w : Begun) : Type 0 where
  pub entered : f.entered ≡ []
  pub collected : w.collected ≡ none_from (layout_of (stream_view w.tree)) 0
  pub open_yet : w.closed ≡ false

-- The block is that of the scope that is filled; its scope is complete only when all its items are entered.
pub record IsBegun (f : Frame) (a : Around) (w : Begun) : Type 0 where
  pub block : IsBlockOf f.setting a (stream_view w.tree)
  pub closed : f.closed ≡ w.closed
  pub unplaced : w.placed ≡ false → IsUnplaced f w
  pub declared : w.placed ≡ true → HasDeclared f a (stream_view w.tree) w.collected
  pub all : w.closed ≡ true → w.collected.count ≡ length (items_of (stream_view w.tree))
  pub stated : IfSome w.stating (λ x. (w.closed ≡ true) × HasStated f a w.tree x)

-- ** The task

abbrev pub stated_answers : Option Stating → List Answer
stated_answers None = []
stated_answers (Some x) = x.body.answers

-- the answers that it has noted
abbrev pub answers_in : Stage → List Answer
answers_in (Unread tokens) = []
answers_in (Working w) = w.collected.answers ++ stated_answers w.stating
answers_in (Ended o) = o.answers.items

-- Nothing is entered before the stream is read. In the end the scope is complete, and the output is the stream's.
pub record IsUnread (f : Frame) (s : StreamOf) (tokens : List Token) : Type 0 where
  pub tokens_are : tokens ≡ s.tokens
  pub entered : f.entered ≡ []
  pub open_yet : f.closed ≡ false

-- the tree of the stream is worked on
pub record IsWorking (f : Frame) (s : StreamOf) (a : Around) (w : Begun) : Type 0 where
  pub spelled : SpellsStream (stream_view w.tree) s
  pub begun : IsBegun f a w

pub record HasEnded (f : Frame) (s : StreamOf) (a : Around) (o : Output) : Type 0 where
  pub closed : f.closed ≡ true
  pub output : IsOutput f.setting.texts s (around_view a) o

abbrev pub IsAtStage : Frame → StreamOf → Around → Stage → Type 0
IsAtStage f s a (Unread tokens) = IsUnread f s tokens.items
IsAtStage f s a (Working w) = IsWorking f s a w
IsAtStage f s a (Ended o) = HasEnded f s a o

-- each answer that it has noted is the reply of a look, where looks are kept
abbrev pub AreShown : State → Stage → Type 0
AreShown st stage = WhereKept st.looks (λ looks. Each (IsAmong looks) (answers_in stage))

-- A task stands at a stream of the unit, and is as far as the scope that is filled: what is entered is what its items
-- made, and the scope is complete where it has completed it.
pub record IsAsFar (st : State) (t : Task) : Type 0 where
  pub stream : StreamOf
  pub number : t.stream ≡ stream.stream
  pub text : t.text ≡ stream.text
  pub kind : t.kind ≡ stream.kind
  pub of_unit : IsOfUnit st.frame.setting stream t.around
  pub at_stage : IsAtStage st.frame stream t.around t.stage
  pub shown : AreShown st t.stage

-- it has ended
abbrev pub is_ended : Stage → Bool
is_ended (Ended o) = true
is_ended other = false

-- ** What is seen of a task

-- the number of its stream
abbrev pub number_of : Task → ℕ
number_of t = t.stream

-- what surrounds its block
abbrev pub around_of : Task → Around
around_of t = t.around

-- how many items and statements it has finished
abbrev pub steps_of : Task → ℕ
steps_of t = t.steps

-- whether it is done
abbrev pub is_over : Task → Bool
is_over t = is_ended t.stage

-- it stands at the same stream
pub record IsSameTask (old new : Task) : Type 0 where
  pub stream : new.stream ≡ old.stream
  pub text : new.text ≡ old.text
  pub kind : new.kind ≡ old.kind
  pub around : new.around ≡ old.around

-- What a task that is done leaves: its scope is complete, the output is that of its stream, and each of its answers is
-- the reply of a look, where looks are kept.
pub record IsLeft (st : State) (t : Task) (o : Output) : Type 0 where
  pub stream : StreamOf
  pub number : number_of t ≡ stream.stream
  pub of_unit : IsOfUnit st.frame.setting stream (around_of t)
  pub ended : HasEnded st.frame stream (around_of t) o
  pub shown : WhereKept st.looks (λ looks. Each (IsAmong looks) o.answers.items)

-- How a turn ends: the task is done; or this turn loaded the head of a smaller scope, which was incomplete, and it
-- hadn't been seen complete before.
abbrev pub Ends : State → State → Task → Turn → Type 0
Ends old new t Done = is_over t ≡ true
Ends old new t (Parked head) = Waits old new head
Ends old new t Memory = Unit {0}
