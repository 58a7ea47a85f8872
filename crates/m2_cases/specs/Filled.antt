-- The scopes of a sample, when a block's scope has all its rows.
use Rattle.std.specs.Prelude.{◌≡◌, ℕ, ◌+◌, ◌<◌, ◌≤◌, true, false, [], ◌∷◌, None, filter}
use Rattle.std.specs.Prelude.{flat_map, length, map, slice_index, take}
use Rattle.m2_base.specs.Lists.{Each}
use Rattle.m2_base.specs.Rows.{row_meaning}
use Rattle.m2_base.specs.States.{Frame}
use Rattle.m2_base.specs.Statics.Cells.{most_cells}
use Rattle.m2_base.specs.Statics.Items.{decl_item, items_of}
use Rattle.m2_base.specs.Statics.Layouts.{Layout, layout_of}
use Rattle.m2_base.specs.Statics.ProcedureRows.{is_proc}
use Rattle.m2_base.specs.Statics.Shapes.{item_shapes}
use Rattle.m2_base.specs.Trees.{Stream}
use Rattle.m2_base.specs.Units.{UnitTexts}
use Rattle.m2_base.specs.declared.sites.Around.{Around}
use Rattle.decl_sem.specs.LaidRows.{AreLaid}
use Rattle.decl_sem.specs.Pieces.{IsOwned}
use Rattle.m2_cases.specs.Samples.{IsSample}

-- ** Blocks

-- what surrounds the block of the module
abbrev pub the_around : Around
the_around = record { scope = 1; text = 0; level = 0; «module» = 1; own = None; chain = 1 ∷ [] }

-- the scopes fill that of the block, and it is complete
pub record IsFull (f : Frame) (u : UnitTexts) : Type 0 where
  pub texts : f.setting.texts ≡ u
  pub fills : f.setting.fills ≡ 1
  pub areas : 1 < length f.setting.areas
  pub closed : f.closed ≡ true

-- the block of a sample, with its layout
pub record IsBlock (u : UnitTexts) (tree : Stream) (a : Around) (l : Layout) : Type 0 where
  pub sample : IsSample u tree
  pub around : a ≡ the_around
  pub layout : l ≡ layout_of tree

-- ** Declarations

-- the number of rows that a tree makes
abbrev pub row_count : Stream → ℕ
row_count tree = length (flat_map item_shapes (items_of tree))

-- So many declarations of a tree are analysed, in a scope with room for the rows of all: the rows that they make are
-- entered, as the layout gives them, and none of them is a procedure's; the next free cell is this.
pub record HasDeclared (f : Frame) (u : UnitTexts) (tree : Stream) (count cell : ℕ) : Type 0 where
  pub texts : f.setting.texts ≡ u
  pub fills : f.setting.fills ≡ 1
  pub inside : 1 < length f.setting.areas
  pub room : row_count tree ≤ slice_index f.setting.areas 1
  pub open_yet : f.closed ≡ false
  pub laid : AreLaid (layout_of tree) 0 (flat_map item_shapes (take count (map decl_item tree.decls))) f.entered
  pub owned : Each (λ r. IsOwned (length f.entered) (row_meaning r)) f.entered
  pub procedures : 0 ≡ length (filter is_proc f.entered)
  pub cells : cell ≤ most_cells + 1
