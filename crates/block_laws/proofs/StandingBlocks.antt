-- All diagnostics of a block stand in its text, at tokens that its tree names: those of its declarations, of its closing check, of its
-- statements and of its size.
use Rattle.std.specs.Prelude.{◌≡◌, ℕ, ◌||◌, nat_lt, List, ◌++◌, flat_map, map, Option, Some, None}
use Rattle.m2_base.specs.Lists.{Each}
use Rattle.m2_base.specs.declared.rows.Row.{Row}
use Rattle.m2_base.specs.Statics.Blocks.{BlockTree}
use Rattle.m2_base.specs.Statics.BlockRows.{declare_block}
use Rattle.m2_base.specs.Statics.Cells.{most_cells}
use Rattle.m2_base.specs.Statics.Closing.{block_name, heading_name}
use Rattle.m2_base.specs.Statics.Contexts.{Context, Source}
use Rattle.m2_base.specs.Statics.Effects.{BlockEffects}
use Rattle.m2_base.specs.Statics.Items.{decl_item, heading_items, import_items}
use Rattle.m2_base.specs.Statics.Leaves.{Leaf, token_leaf, name_leaf, ItemHas, NameOptionHas, StreamHas}
use Rattle.m2_base.specs.Statics.StandingTrees.{IsBelow, IsStandingStream, Stands}
use Rattle.m2_base.specs.Statics.UnitNotes.{complete_context}
use Rattle.m2_base.specs.Tables.{rows_at}
use Rattle.m2_base.specs.Trees.{Heading, Stream}
use Rattle.m2_base.specs.declared.trees.Ident.{Ident}
use Rattle.m2_base.specs.declared.trees.declarations.StreamKind.{StreamKind}
use Rattle.m2_base.specs.declared.trees.declarations.StreamKind.TheVariants.{Definition, Main, Procedure}
use Rattle.m2_base.proofs.EachLaws.{each_all}
use Rattle.m2_base.proofs.StandingItems.{block_at}
use Rattle.m2_base.proofs.StandingNotes.{Noted, NotesAt, join, none, notes_either, one}
use Rattle.block_code.specs.BlockCode.{block_diags, body_of, cells_with, run_of, size_by, size_diags, stand_of, too_many_at}
use Rattle.block_code.specs.Flows.{Run}
use Rattle.block_laws.proofs.EveryTree.{stream_all}
use Rattle.block_laws.proofs.StandingClosings.{RowsHere, closing_at, home_rows_here}
use Rattle.block_laws.proofs.StandingFlows.{statements_at}

module _ (Here : ℕ → Type 0) where
  -- ** The size

  block_name_stands : (s : Stream) → StreamHas (Stands Here) s → NameOptionHas (Stands Here) (block_name s)
  block_name_stands s h = by s.heading h.items
    where
      by : (o : Option Heading) → Each (ItemHas (Stands Here)) (heading_items o ++ flat_map import_items s.imports ++ map decl_item s.decls) → NameOptionHas (Stands Here) (heading_name s.name o)
      by None k = h.name
      by (Some x) k = k.0.name

  too_many_stands : (c : Context) (o : Option Ident) → NameOptionHas (Stands Here) o → NotesAt Here c (too_many_at c o)
  too_many_stands c None h = none
  too_many_stands c (Some i) h = one h

  size_by_at : (c : Context) (b : BlockTree) (cells bytes : ℕ) → StreamHas (Stands Here) b.tree → NotesAt Here c (size_by c b cells bytes)
  size_by_at c b cells bytes h =
      notes_either (nat_lt most_cells cells || nat_lt most_cells bytes) _ _ (too_many_stands c (block_name b.tree) (block_name_stands b.tree h)) none

  size_at : (c : Context) (b : BlockTree) (kind : StreamKind) (e : BlockEffects) (r : Run) → StreamHas (Stands Here) b.tree → NotesAt Here c (size_diags c b kind e r)
  size_at c b Definition e r h = size_by_at c b e.cell 0 h
  size_at c b Main e r h = size_by_at c b (cells_with Main e.cell r) r.next.byte h
  size_at c b Procedure e r h = size_by_at c b (cells_with Procedure e.cell r) r.next.byte h

  -- ** The block

  all_at : (source : Source) (before all : List (List Row)) (b : BlockTree) → StreamHas (Stands Here) b.tree
      → (b.block.level ≡ 0 → RowsHere Here (rows_at (complete_context source all b.block).scene.tables b.block.home)) → Noted b.block.text Here (block_diags source before all b)
  all_at source before all b h rows =
      let c = complete_context source all b.block in
      let d = declare_block source before b in
      join (join (join (block_at Here source before b h) (closing_at Here c b.tree h rows)) (statements_at Here b.tree.body (stand_of c b) h.body))
      (size_at c b b.tree.kind d.value (run_of b d.value (body_of c b).value) h)

-- over the finished scopes, among which are the block's own rows
pub block_stands : (n : ℕ) (source : Source) (before all : List (List Row)) (b : BlockTree) → IsStandingStream n b.tree → (b.block.level ≡ 0 → b.block.home ≡ b.block.scope)
    → rows_at all b.block.scope ≡ (declare_block source before b).rows → Noted b.block.text (IsBelow n) (block_diags source before all b)
block_stands n source before all b h home made = all_at (IsBelow n) source before all b h (home_rows_here (IsBelow n) source before all b h home made)

-- no place is left out
anywhere : (leaf : Leaf) → Stands (λ at. Unit {0}) leaf
anywhere (token_leaf at) = tt
anywhere (name_leaf i) = tt
anywhere value = tt

-- whatever its tree is, and over any scopes
pub block_in_text : (source : Source) (before all : List (List Row)) (b : BlockTree) → Noted b.block.text (λ at. Unit {0}) (block_diags source before all b)
block_in_text source before all b =
    all_at (λ at. Unit {0}) source before all b (stream_all (Stands (λ at. Unit {0})) anywhere b.tree)
    (λ e. each_all (λ (r : Row). Unit {0}) (rows_at (complete_context source all b.block).scene.tables b.block.home) (λ r. tt))
