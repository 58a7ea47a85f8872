-- How far a task is doesn't depend on the tables of other scopes.
use Rattle.std.specs.Prelude.{◌≡◌, ℕ, true, List, Option, Some, None}
use Rattle.std.specs.Option.{IfSome}
use Rattle.m2_base.specs.States.{Frame, Mark, Setting, State}
use Rattle.m2_base.specs.Tables.{Table}
use Rattle.m2_base.specs.Trees.{Stream}
use Rattle.m2_base.specs.declared.rows.Place.{Place}
use Rattle.m2_base.specs.declared.sites.Around.{Around}
use Rattle.stream_split.specs.Streams.{StreamOf}
use Rattle.type_rules.specs.Scenes.{IsThere}
use Rattle.task_state.specs.Blocks.{IsBlockOf}
use Rattle.task_state.specs.Collecting.{Collected}
use Rattle.task_state.specs.Progress.{HasDeclared, HasStated, IsAsFar, IsAtStage, IsBegun}
use Rattle.task_state.specs.Units.{IsOfUnit}
use Rattle.task_state.specs.declared.stages.Begun.{Begun}
use Rattle.task_state.specs.declared.stages.Stage.{Stage}
use Rattle.task_state.specs.declared.stages.Stage.TheVariants.{Ended, Unread, Working}
use Rattle.task_state.specs.declared.stages.Stating.{Stating}
use Rattle.task_state.specs.declared.task.Task.{Task}

-- the same beside these tables
abbrev pub setting_beside : Option (List Table) → Setting → Setting
setting_beside o g = record { texts = g.texts; fills = g.fills; areas = g.areas; others = o }

abbrev pub frame_beside : Option (List Table) → Frame → Frame
frame_beside o f = record { setting = setting_beside o f.setting; entered = f.entered; closed = f.closed }

-- with other heads seen of them
abbrev pub state_beside : Option (List Table) → (ℕ → Mark) → State → State
state_beside o seen st = record { frame = frame_beside o st.frame; seen = seen; looks = st.looks }

module _ (o : Option (List Table)) where
  unit_beside : (g : Setting) (s : StreamOf) (a : Around) → IsOfUnit g s a → IsOfUnit (setting_beside o g) s a
  unit_beside g s a h =
      record {
        unit = h.unit;
        limits = h.limits;
        front = h.front;
        fronts = h.fronts;
        whole = h.whole;
        index = h.index;
        there = h.there;
        around = h.around;
        fills = h.fills;
        areas = h.areas;
      }

  block_beside : (g : Setting) (a : Around) (tree : Stream) → IsBlockOf g a tree → IsBlockOf (setting_beside o g) a tree
  block_beside g a tree h =
      record {
        unit = h.unit;
        fills = h.fills;
        inner = h.inner;
        exist = h.exist;
        small = h.small;
        home = h.home;
        own = h.own;
        chain = h.chain;
        short = h.short;
        down = h.down;
        items = h.items;
        statements = h.statements;
        imports = h.imports;
        few = h.few;
        room = h.room;
        told = h.told;
      }

  there_beside : (f : Frame) (x : Option Place) → IfSome x (λ t. IsThere f t) → IfSome x (λ t. IsThere (frame_beside o f) t)
  there_beside f None h = tt
  there_beside f (Some t) h = record { scope = h.scope; entered = h.entered }

  declared_beside : (f : Frame) (a : Around) (tree : Stream) (m : Collected) → HasDeclared f a tree m → HasDeclared (frame_beside o f) a tree m
  declared_beside f a tree m h =
      record {
        within = h.within;
        brought = h.brought;
        of_each = h.of_each;
        layout = h.layout;
        laid = h.laid;
        owned = h.owned;
        cells = h.cells;
        procedures = h.procedures;
        there = there_beside f m.returns h.there;
        told = h.told;
      }

  stated_beside : (f : Frame) (a : Around) (w : Begun) (x : Option Stating) → IfSome x (λ y. (w.closed ≡ true) × HasStated f a w.tree y) → IfSome x (λ y. (w.closed ≡ true) × HasStated (frame_beside o f) a w.tree y)
  stated_beside f a w None h = tt
  stated_beside f a w (Some y) h = (h.0, record { within = h.1.within; told = h.1.told })

  begun_beside : (f : Frame) (a : Around) (w : Begun) → IsBegun f a w → IsBegun (frame_beside o f) a w
  begun_beside f a w h =
      record {
        block = block_beside f.setting a _ h.block;
        closed = h.closed;
        unplaced = λ e. let u = h.unplaced e in record { entered = u.entered; collected = u.collected; open_yet = u.open_yet };
        declared = λ e. declared_beside f a _ w.collected (h.declared e);
        all = h.all;
        stated = stated_beside f a w w.stating h.stated;
      }

  stage_beside : (f : Frame) (s : StreamOf) (a : Around) (stage : Stage) → IsAtStage f s a stage → IsAtStage (frame_beside o f) s a stage
  stage_beside f s a (Unread tokens) h = record { tokens_are = h.tokens_are; entered = h.entered; open_yet = h.open_yet }
  stage_beside f s a (Working w) h = record { spelled = h.spelled; begun = begun_beside f a w h.begun }
  stage_beside f s a (Ended output) h = record { closed = h.closed; output = h.output }

  -- a task is as far beside any tables
  pub far_beside : (seen : ℕ → Mark) (st : State) (t : Task) → IsAsFar st t → IsAsFar (state_beside o seen st) t
  far_beside seen st t h =
      record {
        stream = h.stream;
        number = h.number;
        text = h.text;
        kind = h.kind;
        of_unit = unit_beside st.frame.setting h.stream t.around h.of_unit;
        at_stage = stage_beside st.frame h.stream t.around t.stage h.at_stage;
        shown = h.shown;
      }
