-- What a block leaves all of whose statements are made is what the definition says of it.
use Rattle.std.specs.Prelude.{◌≡◌, ℕ, zero, suc, ◌≤◌, List, [], ◌∷◌, ◌++◌, length, map, take}
use Rattle.std.proofs.Common.{refl, sym, ap, subst, ◌∙◌, arith, append_assoc}
use Rattle.m2_base.specs.Finished.{IsFinished, source_of}
use Rattle.m2_base.specs.Lists.{Each, WhereKept}
use Rattle.m2_base.specs.States.{IsAmong, State}
use Rattle.m2_base.specs.Statics.BlockRows.{declare_block}
use Rattle.m2_base.specs.Statics.Closing.{closing_diags}
use Rattle.m2_base.specs.Statics.Contexts.{Context}
use Rattle.m2_base.specs.Statics.Effects.{BlockEffects}
use Rattle.m2_base.specs.Statics.Makes.{Makes}
use Rattle.m2_base.specs.Statics.UnitNotes.{complete_context}
use Rattle.m2_base.specs.Trees.{Stream, no_statements, statements}
use Rattle.m2_base.specs.Views.{statement_view, stream_view}
use Rattle.m2_base.specs.declared.notes.Answer.{Answer}
use Rattle.m2_base.specs.declared.outputs.Output.{Output}
use Rattle.m2_base.specs.declared.rows.Row.{Row}
use Rattle.m2_base.specs.declared.trees.statements.Statement.{Statement as StatementOf}
use Rattle.type_rules.specs.Scenes.{block_of}
use Rattle.block_code.specs.BlockCode.{body_of, code_of_run, run_of, size_diags}
use Rattle.stmt_sem.specs.Bodies.{IsBuilt, IsWhole, rest_from, whole_in, whole_of}
use Rattle.block_code.specs.Flows.{Run}
use Rattle.block_code.specs.ProcedureCodes.{code_view}
use Rattle.stmt_sem.specs.Stating.{block_at}
use Rattle.stmt_sem.specs.declared.top_statements.Stated.{Stated}
use Rattle.task_state.specs.Blocks.{block_with}
use Rattle.task_state.specs.Collecting.{Collected, first_made}
use Rattle.task_state.specs.Outputs.{IsOutputOf}
use Rattle.task_state.specs.Steps.{IsStating}
use Rattle.task_state.specs.declared.stages.Block.{Block}
use Rattle.task_state.specs.declared.stages.Stating.{Stating}
use Rattle.task_state.proofs.NextItems.{all_made}

-- none is left behind the last statement
rest_none : (xs : List StatementOf) (k : ℕ) → length xs ≤ k → rest_from k (statements (map statement_view xs)) ≡ no_statements
rest_none [] zero h = refl
rest_none [] (suc k) h = refl
rest_none (x ∷ xs) zero h = absurd (omega (arith, h))
rest_none (x ∷ xs) (suc k) h = rest_none xs k (omega (arith, h))

-- What is given in the end: the output has these parts.
pub record IsJoined (m : Collected) (x : Stating) (whole : Stated) (o : Output) : Type 0 where
  pub diags : o.diags.items ≡ m.diags ++ x.closing.items ++ whole.notes.diags.items
  pub answers : o.answers.items ≡ m.answers ++ whole.notes.answers.items
  pub cells : o.cells ≡ m.cell
  pub headings : o.headings.items ≡ m.headings

module _ (st : State) (bl : Block) (m : Collected) (x : Stating) (far : IsStating st bl m x) (past : x.body.count ≡ length bl.tree.now.body.items) (tables : List (List Row)) (finished : IsFinished st.frame.setting.texts tables) (whole : Stated)
    (ends : (c : Context) (e : BlockEffects) → c.scene.block.text ≡ bl.around.now.text → IsBuilt c (stream_view bl.tree.now) e x.body → IsWhole c (stream_view bl.tree.now) e whole) where
  abbrev tree : Stream
  tree = stream_view bl.tree.now

  abbrev context : Context
  context = complete_context (source_of st.frame.setting.texts) tables (block_of bl.around.now)

  abbrev before : List (List Row)
  before = take bl.around.now.scope tables

  abbrev effects : BlockEffects
  effects = (declare_block (source_of st.frame.setting.texts) (take bl.around.now.scope tables) (block_with bl.around.now (stream_view bl.tree.now))).value

  built : IsBuilt (complete_context (source_of st.frame.setting.texts) tables (block_of bl.around.now)) (stream_view bl.tree.now)
      (declare_block (source_of st.frame.setting.texts) (take bl.around.now.scope tables) (block_with bl.around.now (stream_view bl.tree.now))).value x.body
  built = (far.stated.told tables finished).built

  is_whole : IsWhole (complete_context (source_of st.frame.setting.texts) tables (block_of bl.around.now)) (stream_view bl.tree.now)
      (declare_block (source_of st.frame.setting.texts) (take bl.around.now.scope tables) (block_with bl.around.now (stream_view bl.tree.now))).value whole
  is_whole = ends context effects refl built

  declared_is : (first_made (source_of st.frame.setting.texts) (take st.frame.setting.fills tables) (block_with bl.around.now (stream_view bl.tree.now)) m.count)
      ≡ declare_block (source_of st.frame.setting.texts) (take bl.around.now.scope tables) (block_with bl.around.now (stream_view bl.tree.now))
  declared_is =
      all_made (source_of st.frame.setting.texts) (take st.frame.setting.fills tables) (block_with bl.around.now (stream_view bl.tree.now)) m.count far.all
      ∙ ap (λ (n : ℕ). declare_block (source_of st.frame.setting.texts) (take n tables) (block_with bl.around.now (stream_view bl.tree.now))) (sym far.in_hand.block.fills)

  pub left_is : (o : Output) → IsJoined m x whole o
      → ((r : Run) → whole_in whole.piece ≡ whole_of r → code_view o.code ≡ code_of_run (block_with bl.around.now (stream_view bl.tree.now)) r)
      → IsOutputOf (source_of st.frame.setting.texts) tables (block_with bl.around.now (stream_view bl.tree.now)) o
  left_is o parts code =
      let so = far.declared.told tables finished in
      let made = declared_is in
      let body = body_of context (block_at context tree) in
      let run = run_of (block_at context tree) effects body.value in
      let closing = (far.stated.told tables finished).closing in
      let w = is_whole in
      let diags : m.diags ≡ (declare_block (source_of st.frame.setting.texts) before (block_with bl.around.now tree)).diags = so.diags ∙ ap (λ (z : Makes BlockEffects). z.diags) made in
      let answers : m.answers ≡ (declare_block (source_of st.frame.setting.texts) before (block_with bl.around.now tree)).answers = so.answers ∙ ap (λ (z : Makes BlockEffects). z.answers) made in
      record {
        diags =
            parts.diags ∙ (λ k. diags k ++ closing k ++ w.diags k)
            ∙ sym (append_assoc ((declare_block (source_of st.frame.setting.texts) before (block_with bl.around.now tree)).diags ++ closing_diags context tree) body.diags (size_diags context (block_at context tree) tree.kind effects run));
        answers = parts.answers ∙ (λ k. answers k ++ w.answers k);
        code = code run w.made_is;
        cells = parts.cells ∙ so.cell ∙ ap (λ (z : Makes BlockEffects). z.value.cell) made;
        headings = parts.headings ∙ so.headings ∙ ap (λ (z : Makes BlockEffects). z.value.headings) made;
      }

-- the answers of the body are those of its statements
pub left_shown : (st : State) (bl : Block) (m : Collected) (x : Stating) (whole : Stated) (o : Output) → IsStating st bl m x → whole.notes.answers.items ≡ x.body.answers → IsJoined m x whole o
    → WhereKept st.looks (λ looks. Each (IsAmong looks) o.answers.items)
left_shown st bl m x whole o far same parts =
    subst (λ (xs : List Answer). WhereKept st.looks (λ looks. Each (IsAmong looks) xs)) (sym (parts.answers ∙ ap (λ xs. m.answers ++ xs) same)) far.shown
