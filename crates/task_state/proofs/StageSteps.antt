-- A task goes from one stage to the next.
use Rattle.std.specs.Prelude.{◌≡◌, true, false, List, [], ◌++◌, Option, Some, None, Result, Ok, Err}
use Rattle.std.specs.Option.{IfSome}
use Rattle.std.specs.declared.vec.Vec.{Vec}
use Rattle.std.proofs.Common.{Global, refl, sym, ap, subst, ◌∙◌}
use Rattle.m2_base.specs.Lists.{Each, WhereKept}
use Rattle.m2_base.specs.Scopes.{CanComplete}
use Rattle.m2_base.specs.States.{IsAmong, Look, State}
use Rattle.m2_base.specs.Statics.Layouts.{Layout, layout_of}
use Rattle.m2_base.specs.Trees.{Stream}
use Rattle.m2_base.specs.Views.{stream_view}
use Rattle.m2_base.specs.declared.notes.Answer.{Answer}
use Rattle.m2_base.specs.declared.outputs.StreamFault.{StreamFault}
use Rattle.m2_base.specs.declared.token.Token.{Token}
use Rattle.m2_base.specs.declared.trees.declarations.Stream.{Stream as HeldStream}
use Rattle.m2_base.specs.declared.trees.declarations.StreamKind.{StreamKind}
use Rattle.m2_parse.specs.Streams as parsed
use Rattle.stream_split.specs.Agreement.{SpellsStream}
use Rattle.task_state.specs.Collecting.{Collected, none_from}
use Rattle.task_state.specs.Progress.{HasStated, IsAsFar, IsAtStage, IsUnread, stated_answers}
use Rattle.task_state.specs.Steps.{IsFresh, IsRead}
use Rattle.task_state.specs.declared.stages.Begun.{Begun}
use Rattle.task_state.specs.declared.stages.Stage.{Stage}
use Rattle.task_state.specs.declared.stages.Stage.TheVariants.{Ended, Unread, Working}
use Rattle.task_state.specs.declared.stages.Stating.{Stating}
use Rattle.task_state.specs.declared.task.Task.{Task}
use Rattle.task_state.proofs.UnitBlocks.{block_is, has_tree}

-- ** A stream that is read

pub shown_none : (o : Option (List Look)) → WhereKept o (λ looks. Each (IsAmong looks) [])
shown_none None = tt
shown_none (Some looks) = tt

-- what holds at a stage
pub at_unread : (st : State) (t : Task) (far : IsAsFar st t) (tokens : Vec Token Global) → t.stage ≡ Unread tokens → IsUnread st.frame far.stream tokens.items
at_unread st t far tokens is = subst (λ (s : Stage). IsAtStage st.frame far.stream t.around s) is far.at_stage

-- any stage but the first
pub is_read : (s : Stage) → ((tokens : Vec Token Global) → s ≡ Unread tokens → ⊥) → IsRead s
is_read (Unread tokens) h = h tokens refl
is_read (Working w) h = tt
is_read (Ended o) h = tt

got : Result Stream StreamFault → Stream → Stream
got (Ok x) other = x
got (Err e) other = other

-- one tree alone
pub one_tree : (x y : Stream) (r : Result Stream StreamFault) → r ≡ Ok x → r ≡ Ok y → x ≡ y
unfolding got
one_tree x y r e h = sym (ap (λ (z : Result Stream StreamFault). got z x) e) ∙ ap (λ (z : Result Stream StreamFault). got z x) h

-- the task with this stage
abbrev pub task_with : Task → Stage → Task
task_with t stage = record { stream = t.stream; text = t.text; kind = t.kind; around = t.around; stage = stage; steps = t.steps }

module _ (st : State) (t : Task) (far : IsAsFar st t) (tokens : List Token) (unread : IsUnread st.frame far.stream tokens) where
  -- the tokens are the stream's
  spelled_by : (tree : Stream) → parsed.SpellsStream t.kind tree tokens → SpellsStream tree far.stream
  spelled_by tree spelled =
      subst (λ (k : StreamKind). parsed.SpellsStream k tree far.stream.tokens) far.kind
      (subst (λ (ts : List Token). parsed.SpellsStream t.kind tree ts) unread.tokens_are spelled)

  spelled_in : (tree : Stream) → SpellsStream tree far.stream → parsed.SpellsStream t.kind tree tokens
  spelled_in tree spelled =
      subst (λ (ts : List Token). parsed.SpellsStream t.kind tree ts) (sym unread.tokens_are)
      (subst (λ (k : StreamKind). parsed.SpellsStream k tree far.stream.tokens) (sym far.kind) spelled)

  -- its tree is read
  pub far_begun : (tree : HeldStream) (w : Begun) → parsed.SpellsStream t.kind (stream_view tree) tokens → ((x : Stream) → parsed.SpellsStream t.kind x tokens → x ≡ stream_view tree)
      → IsFresh tree w → IsAsFar st (task_with t (Working w))
  far_begun tree w spelled only fresh =
      let s = far.stream in
      let of = far.of_unit in
      let here : SpellsStream (stream_view w.tree) s = subst (λ (x : HeldStream). SpellsStream (stream_view x) s) (sym fresh.tree_is) (spelled_by (stream_view tree) spelled) in
      let alone : (x : Stream) → SpellsStream x s → x ≡ stream_view w.tree = λ x h. only x (spelled_in x h) ∙ ap stream_view (sym fresh.tree_is) in
      let block = block_is st.frame.setting s t.around (stream_view w.tree) of here alone in
      record {
        stream = s;
        number = far.number;
        text = far.text;
        kind = far.kind;
        of_unit = of;
        at_stage =
            record {
              spelled = here;
              begun =
                  record {
                    block = block;
                    closed = unread.open_yet ∙ sym fresh.closed;
                    unplaced = λ _. record { entered = unread.entered; collected = fresh.collected ∙ ap (λ (x : HeldStream). none_from (layout_of (stream_view x)) 0) (sym fresh.tree_is); open_yet = fresh.closed };
                    declared = λ placed. absurd (let bad : true ≡ false = sym placed ∙ fresh.placed in cc);
                    all = λ closed. absurd (let bad : true ≡ false = sym closed ∙ fresh.closed in cc);
                    stated = subst (λ (o : Option Stating). IfSome o (λ x. (w.closed ≡ true) × HasStated st.frame t.around w.tree x)) (sym fresh.stating) tt;
                  };
            };
        shown = subst (λ (xs : List Answer). WhereKept st.looks (λ looks. Each (IsAmong looks) xs)) (no_answers (layout_of (stream_view tree)) w.collected w.stating fresh.collected fresh.stating) (shown_none st.looks);
      }
    where
      no_answers : (l : Layout) (m : Collected) (x : Option Stating) → m ≡ none_from l 0 → x ≡ None → [] ≡ m.answers ++ stated_answers x
      no_answers l m x e n = λ k. (sym e k).answers ++ stated_answers (sym n k)

  -- it has a fault, and its unit has no finished rows
  pub fault_completes : (fault : StreamFault) → ((x : Stream) → parsed.SpellsStream t.kind x tokens → Ok x ≡ Err fault) → CanComplete st
  fault_completes fault only =
      record {
        open_yet = unread.open_yet;
        all = λ tables finished.
            let tree = has_tree st.frame.setting far.stream t.around far.of_unit tables finished in
            let bad : Ok tree.0 ≡ Err fault = only tree.0 (spelled_in tree.0 tree.1) in
            absurd (cc);
      }
