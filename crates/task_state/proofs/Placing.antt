-- The first cell of a block's variables is known before its first item is declared.
use Rattle.std.specs.Prelude.{◌≡◌, ℕ, ◌+◌, ◌≤◌, true, false, List, [], ◌∷◌, ◌++◌, Option, None, filter, length, take}
use Rattle.std.specs.Option.{IfSome}
use Rattle.std.proofs.Common.{refl, sym, ap, subst, ◌∙◌, arith}
use Rattle.std.proofs.lemmas.List.{take-take}
use Rattle.m2_base.specs.Lists.{Each, WhereKept}
use Rattle.m2_base.specs.Rows.{row_meaning}
use Rattle.m2_base.specs.States.{Frame, IsAmong, Keeps, Look, State}
use Rattle.m2_base.specs.Statics.BlockRows.{first_cell}
use Rattle.m2_base.specs.Statics.Cells.{most_cells}
use Rattle.m2_base.specs.Statics.Contexts.{Scene}
use Rattle.m2_base.specs.Statics.Layouts.{Layout, layout_of}
use Rattle.m2_base.specs.Statics.ProcedureRows.{is_proc}
use Rattle.m2_base.specs.Tables.{rows_at}
use Rattle.m2_base.specs.Trees.{Stream}
use Rattle.m2_base.specs.Views.{stream_view}
use Rattle.m2_base.specs.declared.notes.Answer.{Answer}
use Rattle.m2_base.specs.declared.rows.Row.{Row}
use Rattle.m2_base.specs.declared.sites.Around.{Around}
use Rattle.m2_base.specs.declared.trees.declarations.Stream.{Stream as HeldStream}
use Rattle.decl_sem.specs.LaidRows.{AreLaid, none_laid}
use Rattle.decl_sem.specs.Pieces.{IsOwned}
use Rattle.decl_sem.proofs.LayoutSteps.{layout_at_start}
use Rattle.type_rules.specs.Scenes.{Suits, WhereTold, block_of, hand, scene_of}
use Rattle.task_state.specs.Blocks.{IsBlockOf}
use Rattle.task_state.specs.Collecting.{Collected, none_from, placed_from}
use Rattle.task_state.specs.Progress.{HasDeclared, HasStated, IsBegun, stated_answers}
use Rattle.task_state.specs.Steps.{IsAtWork}
use Rattle.task_state.specs.declared.stages.Begun.{Begun}
use Rattle.task_state.specs.declared.stages.Stating.{Stating}
use Rattle.task_state.proofs.AtWork.{unstated}
use Rattle.task_state.proofs.Lists.{shown_still}
use Rattle.task_state.proofs.StageSteps.{shown_none}

-- ** Where nothing is entered

module _ (f : Frame) (a : Around) (tree : Stream) (block : IsBlockOf f.setting a tree) (entered : f.entered ≡ []) where
  -- the scopes suit the block
  pub suits_first : f.closed ≡ false → Suits f a
  suits_first open_yet =
      let unit = block.unit in
      let names = unit.countable in
      record {
        fills = block.fills;
        inner = block.inner;
        exist = block.exist;
        names = omega (arith, names);
        standard = unit.standard;
        home = block.home;
        own = block.own;
        told = λ tables finished.
            let t = block.told tables finished in
            record {
              scopes = t.scopes;
              standard = t.standard;
              few = t.few;
              entered = record { rest = rows_at tables f.setting.fills; joined = ap (λ (rows : List Row). rows ++ rows_at tables f.setting.fills) entered };
              whole = λ closed. absurd (let bad : true ≡ false = sym closed ∙ open_yet in cc);
            };
      }

  -- of no item nothing is made
  pub none_declared : (cell : ℕ) (m : Collected) → m ≡ none_from (layout_of tree) cell → cell ≤ most_cells + 1 → WhereTold f (λ made. cell ≡ first_cell (scene_of f made a) tree.kind a.own) → HasDeclared f a tree m
  none_declared cell m none few told =
      subst (λ (x : Collected). HasDeclared f a tree x) (sym none)
      (record {
        within = omega arith;
        brought = [];
        of_each = refl;
        layout = layout_at_start tree;
        laid = subst (λ (rows : List Row). AreLaid (layout_of tree) 0 [] rows) (sym entered) none_laid;
        owned = subst (λ (rows : List Row). Each (λ r. IsOwned (length rows) (row_meaning r)) rows) (sym entered) tt;
        cells = few;
        procedures = ap (λ (rows : List Row). length (filter is_proc rows)) (sym entered);
        there = tt;
        told = λ tables finished.
            let fills = block.fills in
            let n = f.setting.fills in
            let twice : take n tables ≡ take a.scope (take n tables) = sym (take-take a.scope n tables (omega (arith, fills)) ∙ ap (λ (k : ℕ). take k tables) fills) in
            let own : f.entered ++ [] ≡ [] = ap (λ (rows : List Row). rows ++ []) entered in
            let scene : scene_of f (hand tables []) a ≡ record { block = block_of a; tables = take a.scope (take n tables) ++ [] ∷ [] } =
            λ k. record { block = block_of a; tables = twice k ++ own k ∷ [] } in
            record {
              layout = refl;
              rows = entered;
              cell = told (hand tables []) (record { closed = λ _. refl; types = tt }) finished ∙ ap (λ (x : Scene). first_cell x tree.kind a.own) scene;
              returns = refl;
              copies = refl;
              headings = refl;
              diags = refl;
              answers = refl;
            };
      })

-- ** The block in hand

-- only searches were made
pub at_work_still : {a b : State} {looks : List Look} (around : Around) (w : Begun) → Keeps a b looks → IsAtWork a around w → IsAtWork b around w
at_work_still {a} {b} {looks} around w keeps far =
    record {
      begun = subst (λ (f : Frame). IsBegun f around w) (sym keeps.frame) far.begun;
      shown = shown_still a.looks b.looks looks (w.collected.answers ++ stated_answers w.stating) keeps.grows far.shown;
    }

-- what is asked of the first cell
pub suits_unplaced : (st : State) (around : Around) (w : Begun) → IsAtWork st around w → w.placed ≡ false → Suits st.frame around
suits_unplaced st around w far unplaced =
    let none = far.begun.unplaced unplaced in
    suits_first st.frame around (stream_view w.tree) far.begun.block none.entered (far.begun.closed ∙ none.open_yet)

-- the same block, whose first cell is known
pub record IsPlacedAt (w v : Begun) (cell : ℕ) : Type 0 where
  pub tree : v.tree ≡ w.tree
  pub collected : v.collected ≡ placed_from cell w.collected
  pub placed : v.placed ≡ true
  pub closed : v.closed ≡ w.closed
  pub stating : v.stating ≡ w.stating

no_answers : (l : Layout) (m : Collected) (cell : ℕ) (x : Option Stating) → m ≡ none_from l cell → x ≡ None → [] ≡ m.answers ++ stated_answers x
no_answers l m cell x e n = λ k. (sym e k).answers ++ stated_answers (sym n k)

pub placed_now : {a b : State} {looks : List Look} (around : Around) (w v : Begun) (cell : ℕ) → Keeps a b looks → IsAtWork a around w → w.placed ≡ false → IsPlacedAt w v cell → cell ≤ most_cells + 1
    → WhereTold a.frame (λ made. cell ≡ first_cell (scene_of a.frame made around) w.tree.kind around.own) → IsAtWork b around v
placed_now {a} {b} {looks} around w v cell keeps far unplaced same few told =
    let none = far.begun.unplaced unplaced in
    let fresh : v.collected ≡ none_from (layout_of (stream_view w.tree)) cell = same.collected ∙ ap (placed_from cell) none.collected in
    let nothing : v.stating ≡ None = same.stating ∙ unstated a around w far none.open_yet in
    at_work_still around v keeps
    (record {
      begun =
          record {
            block = subst (λ (t : HeldStream). IsBlockOf a.frame.setting around (stream_view t)) (sym same.tree) far.begun.block;
            closed = far.begun.closed ∙ sym same.closed;
            unplaced = λ no. absurd (let bad : true ≡ false = sym same.placed ∙ no in cc);
            declared = λ _.
                subst (λ (t : HeldStream). HasDeclared a.frame around (stream_view t) v.collected) (sym same.tree)
                (none_declared a.frame around (stream_view w.tree) far.begun.block none.entered cell v.collected fresh few told);
            all = λ closed. absurd (let bad : true ≡ false = sym closed ∙ same.closed ∙ none.open_yet in cc);
            stated = subst (λ (o : Option Stating). IfSome o (λ x. (v.closed ≡ true) × HasStated a.frame around v.tree x)) (sym nothing) tt;
          };
      shown = subst (λ (xs : List Answer). WhereKept a.looks (λ looks. Each (IsAmong looks) xs)) (no_answers (layout_of (stream_view w.tree)) v.collected cell v.stating fresh nothing) (shown_none a.looks);
    })
