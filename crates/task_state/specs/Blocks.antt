-- What a task asks of its block, in every unit.
use Rattle.std.specs.Prelude.{◌≡◌, ℕ, ◌<◌, ◌≤◌, ◌^◌, List, ◌∷◌, Some, drop, flat_map, length, slice_index, take}
use Rattle.m2_base.specs.Finished.{WhereFinished, source_of}
use Rattle.m2_base.specs.Lists.{Each, WhereKept}
use Rattle.m2_base.specs.Standard.{standard_rows}
use Rattle.m2_base.specs.States.{Setting}
use Rattle.m2_base.specs.Statics.BlockRows.{at_item, context_of, declare_block}
use Rattle.m2_base.specs.Statics.Blocks.{BlockTree}
use Rattle.m2_base.specs.Statics.Contexts.{Source}
use Rattle.m2_base.specs.Statics.Declarations.{declare}
use Rattle.m2_base.specs.Statics.Items.{heading_item, items_of}
use Rattle.m2_base.specs.Statics.ReadStatements.{AreReadStatements}
use Rattle.m2_base.specs.Statics.ReadTrees.{IsReadItem}
use Rattle.m2_base.specs.Statics.Shapes.{item_shapes}
use Rattle.m2_base.specs.Statics.UnitNotes.{complete_context}
use Rattle.m2_base.specs.Tables.{rows_at}
use Rattle.m2_base.specs.Trees.{Heading, Stream}
use Rattle.m2_base.specs.Units.{IsUnit}
use Rattle.m2_base.specs.declared.rows.Row.{Row}
use Rattle.m2_base.specs.declared.sites.Around.{Around}
use Rattle.decl_sem.specs.ImportedModules.{IsFromBefore}
use Rattle.block_code.specs.BlockCode.{result_by}
use Rattle.stream_split.specs.Rooms.{most_rows}
use Rattle.type_rules.specs.Scenes.{block_of}

-- a block and its tree
abbrev pub block_with : Around → Stream → BlockTree
block_with a tree = record { block = block_of a; tree = tree }

-- how many rows a tree declares, without those that its imports bring
abbrev pub row_count : Stream → ℕ
row_count tree = length (flat_map item_shapes (items_of tree))

-- The finished rows of a unit: those of this scope are what its block declares. What the block's own heading gives as
-- the result is what the statements return.
pub record IsBlockIn (source : Source) (tables : List (List Row)) (scope : ℕ) (b : BlockTree) : Type 0 where
  pub scopes : scope < length tables
  pub standard : rows_at tables 0 ≡ standard_rows
  pub few : (s : ℕ) → length (rows_at tables s) < 2 ^ 32
  pub rows : rows_at tables scope ≡ (declare_block source (take scope tables) b).rows
  pub returns : (h : Heading) (cell : ℕ) → b.tree.heading ≡ Some h
      → (declare (at_item (context_of source (take scope tables) b) 0) b.tree.kind (heading_item h) cell).value.result
      ≡ result_by (complete_context source tables b.block) b.tree

-- The block is that of the scope that is filled. It can be searched from: what surrounds it comes before it. Its tree
-- was read from tokens, imports from scopes before, and has room for its rows, with those that its imports bring; and
-- the finished rows of its scope are those of the tree.
pub record IsBlockOf (g : Setting) (a : Around) (tree : Stream) : Type 0 where
  pub unit : IsUnit g.texts
  pub fills : a.scope ≡ g.fills
  pub inner : 0 < g.fills
  pub exist : g.fills < length g.areas
  pub small : g.fills < 2 ^ 31
  pub home : a.«module» ≤ g.fills
  pub own : WhereKept a.own (λ s. s < g.fills)
  pub chain : a.chain ≡ g.fills ∷ drop 1 a.chain
  pub short : length a.chain ≤ 18
  pub down : Each (λ k. k < g.fills) (drop 1 a.chain)
  pub items : Each (IsReadItem g.texts.names) (items_of tree)
  pub statements : AreReadStatements g.texts.names tree.body
  pub imports : Each (IsFromBefore (source_of g.texts) g.fills) (items_of tree)
  pub few : row_count tree < 2 ^ 30
  pub room : most_rows tree ≤ slice_index g.areas g.fills
  pub told : WhereFinished g.texts (λ tables. IsBlockIn (source_of g.texts) tables g.fills (block_with a tree))
