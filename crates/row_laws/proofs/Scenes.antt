-- The scene in which a block's declarations begin, and the rows that the block makes in it.
use Rattle.std.specs.Prelude.{ℕ, ◌<◌, List, length}
use Rattle.std.proofs.Common.{ap, arith}
use Rattle.m2_base.specs.Lists.{WhereKept}
use Rattle.m2_base.specs.declared.rows.Row.{Row}
use Rattle.m2_base.specs.Statics.BlockRows.{declare_block, context_of, scene_of, first_cell}
use Rattle.m2_base.specs.Statics.Blocks.{BlockTree}
use Rattle.m2_base.specs.Statics.Contexts.{Source}
use Rattle.m2_base.specs.Statics.FormedRows.{IsReady}
use Rattle.m2_base.specs.Statics.Items.{items_of}
use Rattle.m2_base.proofs.LayoutLaws.{block_counted, block_few}
use Rattle.m2_base.proofs.NoRepeats.{scene_empty}
use Rattle.m2_base.proofs.SoundBlocks.{context_sound, first_cell_most}
use Rattle.m2_base.proofs.SoundItems.{items_ok}
use Rattle.m2_base.proofs.SoundOperations.{SoundContext}
use Rattle.row_laws.proofs.Numbers.{AllAgree}
use Rattle.row_laws.proofs.Agreeing.{Ready}
use Rattle.row_laws.proofs.Closed.{IsClosed}
use Rattle.row_laws.proofs.AgreeingItems.{items_agree}

-- the rows of a block are made in a sound context
pub block_ready : (names : ℕ) (source : Source) (tables : List (List Row)) (b : BlockTree) → IsReady names source tables b → WhereKept b.block.own (λ s. s < b.block.scope)
    → Ready names (context_of source tables b) (declare_block source tables b).rows
unfolding declare_block
block_ready names source tables b ready own =
    let c = context_of source tables b in
    let few = ready.few in
    let context : SoundContext names c = context_sound names source tables b ready in
    let cell = first_cell (scene_of tables b.block) b.tree.kind b.block.own in
    let many = block_counted source tables b in
    let brought = block_few source tables b in
    let none = ap length (scene_empty tables b.block ready.before) in
    record {
      sound = context;
      before = own;
      ok = items_ok names (items_of b.tree) c b.tree.kind 0 cell context ready.items ready.imports (first_cell_most (scene_of tables b.block) b.tree.kind b.block.own)
          (record { enough = omega (arith, many, brought, none, few) });
      room = record { enough = omega (arith, many, brought, none, few) };
    }

pub block_agrees : (names : ℕ) (source : Source) (tables : List (List Row)) (b : BlockTree) → IsReady names source tables b → WhereKept b.block.own (λ s. s < b.block.scope)
    → IsClosed (scene_of tables b.block) → AllAgree (scene_of tables b.block) (declare_block source tables b).rows
unfolding declare_block
block_agrees names source tables b ready own closed =
    items_agree names (items_of b.tree) (context_of source tables b) b.tree.kind 0 (first_cell (scene_of tables b.block) b.tree.kind b.block.own) ready.items (block_ready names source tables b ready own) closed
