-- What a step of the work on a block needs and leaves.
use Rattle.std.specs.Prelude.{◌≡◌, true, false, ◌++◌, length, None, Result, Ok, Err}
use Rattle.m2_base.specs.Finished.{WhereFinished, source_of}
use Rattle.m2_base.specs.Lists.{Each, WhereKept}
use Rattle.m2_base.specs.States.{IsAmong, Setting, State, Waits, texts_of}
use Rattle.m2_base.specs.Statics.Items.{items_of}
use Rattle.m2_base.specs.Statics.Layouts.{layout_of}
use Rattle.m2_base.specs.Views.{stream_view}
use Rattle.m2_base.specs.declared.outputs.Output.{Output}
use Rattle.m2_base.specs.declared.sites.Around.{Around}
use Rattle.m2_base.specs.declared.trees.declarations.Stream.{Stream as HeldStream}
use Rattle.task_state.specs.Blocks.{IsBlockOf, block_with}
use Rattle.task_state.specs.Collecting.{Collected, none_from}
use Rattle.task_state.specs.Outputs.{IsOutputOf}
use Rattle.task_state.specs.Progress.{HasDeclared, HasStated, IsBegun, answers_in}
use Rattle.task_state.specs.declared.stages.Begun.{Begun}
use Rattle.task_state.specs.declared.stages.Block.{Block}
use Rattle.task_state.specs.declared.stages.Stage.{Stage}
use Rattle.task_state.specs.declared.stages.Stage.TheVariants.{Unread, Working}
use Rattle.task_state.specs.declared.stages.Stating.{Stating}
use Rattle.task_state.specs.declared.stops.Stop.{Stop}
use Rattle.task_state.specs.declared.stops.Stop.TheVariants.{NoMemory, Parked}

-- the work stops at a scope only where it waits for that
abbrev pub Stops : {T : Type 0} → State → State → Result T Stop → Type 0
Stops old new (Ok v) = Unit {0}
Stops old new (Err (Parked head)) = Waits old new head
Stops old new (Err NoMemory) = Unit {0}

-- a block in hand is that of the scope that is filled
pub record IsInHand (g : Setting) (b : Block) : Type 0 where
  pub texts : b.texts.now ≡ g.texts
  pub block : IsBlockOf g b.around.now (stream_view b.tree.now)

-- The first of its items are entered, and this was collected of them.
pub record IsDeclaring (st : State) (b : Block) (m : Collected) : Type 0 where
  pub in_hand : IsInHand st.frame.setting b
  pub open_yet : st.frame.closed ≡ false
  pub declared : HasDeclared st.frame b.around.now (stream_view b.tree.now) m
  pub shown : WhereKept st.looks (λ looks. Each (IsAmong looks) m.answers)

-- All its items are entered, and its scope is complete.
pub record IsComplete (st : State) (b : Block) (m : Collected) : Type 0 where
  pub in_hand : IsInHand st.frame.setting b
  pub closed : st.frame.closed ≡ true
  pub declared : HasDeclared st.frame b.around.now (stream_view b.tree.now) m
  pub all : m.count ≡ length (items_of (stream_view b.tree.now))
  pub shown : WhereKept st.looks (λ looks. Each (IsAmong looks) m.answers)

-- and the first of its statements are made
pub record IsStating (st : State) (b : Block) (m : Collected) (x : Stating) : Type 0 where
  pub in_hand : IsInHand st.frame.setting b
  pub closed : st.frame.closed ≡ true
  pub declared : HasDeclared st.frame b.around.now (stream_view b.tree.now) m
  pub all : m.count ≡ length (items_of (stream_view b.tree.now))
  pub stated : HasStated st.frame b.around.now b.tree.now x
  pub shown : WhereKept st.looks (λ looks. Each (IsAmong looks) (m.answers ++ x.body.answers))

-- ** A block with its tree

-- it is as far as its items and statements say
pub record IsAtWork (st : State) (a : Around) (w : Begun) : Type 0 where
  pub begun : IsBegun st.frame a w
  pub shown : WhereKept st.looks (λ looks. Each (IsAmong looks) (answers_in (Working w)))

-- What it leaves is the definition's, where no text has a syntax error.
pub record Leaves (st : State) (a : Around) (tree : HeldStream) (o : Output) : Type 0 where
  pub stream : o.stream ≡ a.scope
  pub sound : o.fault ≡ None
  pub told : WhereFinished (texts_of st)
      (λ tables. IsOutputOf (source_of (texts_of st)) tables (block_with a (stream_view tree)) o)
  pub shown : WhereKept st.looks (λ looks. Each (IsAmong looks) o.answers.items)

-- a tree of which nothing is done yet
pub record IsFresh (tree : HeldStream) (w : Begun) : Type 0 where
  pub tree_is : w.tree ≡ tree
  pub collected : w.collected ≡ none_from (layout_of (stream_view tree)) 0
  pub placed : w.placed ≡ false
  pub closed : w.closed ≡ false
  pub stating : w.stating ≡ None

-- the stream is read
abbrev pub IsRead : Stage → Type 0
IsRead (Unread tokens) = ⊥
IsRead other = Unit {0}
