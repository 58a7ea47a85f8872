-- A block with its tree is as far as its steps leave it.
use Rattle.std.specs.Prelude.{◌≡◌, Bool, true, false, List, ◌++◌, Option, Some, None, Result, Ok, Err, IfOk, length}
use Rattle.std.specs.Option.{IfSome}
use Rattle.std.proofs.Common.{refl, sym, ap, subst, ◌∙◌}
use Rattle.std.proofs.lemmas.List.{append-nil}
use Rattle.m2_base.specs.Lists.{Each, WhereKept}
use Rattle.m2_base.specs.States.{IsAmong, State, texts_of}
use Rattle.m2_base.specs.Statics.Items.{items_of}
use Rattle.m2_base.specs.Views.{stream_view}
use Rattle.m2_base.specs.declared.notes.Answer.{Answer}
use Rattle.m2_base.specs.declared.sites.Around.{Around}
use Rattle.m2_base.specs.declared.trees.declarations.Stream.{Stream as HeldStream}
use Rattle.task_state.specs.Blocks.{IsBlockOf}
use Rattle.task_state.specs.Progress.{HasDeclared, HasStated, stated_answers}
use Rattle.task_state.specs.Steps.{IsAtWork, IsComplete, IsInHand, IsStating}
use Rattle.task_state.specs.declared.stages.Begun.{Begun}
use Rattle.task_state.specs.declared.stages.Block.{Block}
use Rattle.task_state.specs.declared.stages.Stating.{Stating}
use Rattle.task_state.proofs.Lists.{shown_front}

-- before the scope is complete no statement is made
not_stated : (P : Stating → Type 0) (w : Begun) (x : Option Stating) → w.closed ≡ false → IfSome x (λ y. (w.closed ≡ true) × P y) → x ≡ None
not_stated P w None open_yet h = refl
not_stated P w (Some x) open_yet h = absurd (let bad : true ≡ false = sym h.0 ∙ open_yet in cc)

-- the first cell is known before the scope is complete
pub placed_first : (st : State) (around : Around) (w : Begun) → IsAtWork st around w → w.closed ≡ true → w.placed ≡ true
placed_first st around w far closed = go w.placed refl
  where
    go : (b : Bool) → w.placed ≡ b → b ≡ true
    go true e = refl
    go false e = absurd (let bad : true ≡ false = sym closed ∙ (far.begun.unplaced e).open_yet in cc)

-- the block of a tree in hand
module _ (bl : Block) (w : Begun) (tree : bl.tree.now ≡ w.tree) where
  module _ (st : State) (texts : bl.texts.now ≡ texts_of st) (far : IsAtWork st bl.around.now w) (placed : w.placed ≡ true) where
    in_hand : IsInHand st.frame.setting bl
    in_hand =
        record {
          texts = texts;
          block = subst (λ (t : HeldStream). IsBlockOf st.frame.setting bl.around.now (stream_view t)) (sym tree) far.begun.block;
        }

    declared : HasDeclared st.frame bl.around.now (stream_view bl.tree.now) w.collected
    declared = subst (λ (t : HeldStream). HasDeclared st.frame bl.around.now (stream_view t) w.collected) (sym tree) (far.begun.declared placed)

    shown : WhereKept st.looks (λ looks. Each (IsAmong looks) w.collected.answers)
    shown = shown_front st.looks w.collected.answers (stated_answers w.stating) far.shown

    all_there : w.closed ≡ true → w.collected.count ≡ length (items_of (stream_view bl.tree.now))
    all_there closed = far.begun.all closed ∙ ap (λ (t : HeldStream). length (items_of (stream_view t))) (sym tree)

    pub to_complete : w.closed ≡ true → IsComplete st bl w.collected
    to_complete closed = record { in_hand = in_hand; closed = far.begun.closed ∙ closed; declared = declared; all = all_there closed; shown = shown }

    pub to_stating : (x : Stating) → w.stating ≡ Some x → IsStating st bl w.collected x
    to_stating x some =
        let so = subst (λ (o : Option Stating). IfSome o (λ y. (w.closed ≡ true) × HasStated st.frame bl.around.now w.tree y)) some far.begun.stated in
        record {
          in_hand = in_hand;
          closed = far.begun.closed ∙ so.0;
          declared = declared;
          all = all_there so.0;
          stated = subst (λ (t : HeldStream). HasStated st.frame bl.around.now t x) (sym tree) so.1;
          shown = subst (λ (o : Option Stating). WhereKept st.looks (λ looks. Each (IsAmong looks) (w.collected.answers ++ stated_answers o))) some far.shown;
        }

pub unstated : (st : State) (around : Around) (w : Begun) → IsAtWork st around w → w.closed ≡ false → w.stating ≡ None
unstated st around w far open_yet = not_stated (HasStated st.frame around w.tree) w w.stating open_yet far.begun.stated

-- a body that is begun anew
pub forgotten : (st : State) (around : Around) (w : Begun) (x : Option Stating) → x ≡ None → IsAtWork st around w
    → IsAtWork st around (record { tree = w.tree; collected = w.collected; placed = w.placed; closed = w.closed; stating = x })
forgotten st around w x none far =
    let b = far.begun in
    record {
      begun =
          record {
            block = b.block;
            closed = b.closed;
            unplaced = λ no. (let u = b.unplaced no in record { entered = u.entered; collected = u.collected; open_yet = u.open_yet });
            declared = b.declared;
            all = b.all;
            stated = subst (λ (o : Option Stating). IfSome o (λ y. (w.closed ≡ true) × HasStated st.frame around w.tree y)) (sym none) tt;
          };
      shown = subst (λ (xs : List Answer). WhereKept st.looks (λ looks. Each (IsAmong looks) xs)) (sym (ap (λ (o : Option Stating). w.collected.answers ++ stated_answers o) none ∙ append-nil w.collected.answers))
          (shown_front st.looks w.collected.answers (stated_answers w.stating) far.shown);
    }

pub if_ok_then : {A B : Type 0} (r : Result A B) (P Q : A → Type 0) → ((x : A) → P x → Q x) → IfOk r P → IfOk r Q
if_ok_then (Ok x) P Q f h = f x h
if_ok_then (Err e) P Q f h = tt
