-- What a block of a main text has by its tree.
use Rattle.std.specs.Prelude.{◌≡◌, ◌≤◌, List, Some}
use Rattle.m2_base.specs.Lists.{Each}
use Rattle.m2_base.specs.declared.rows.Row.{Row}
use Rattle.m2_base.specs.Statics.BlockRows.{declare_block}
use Rattle.m2_base.specs.Statics.Blocks.{BlockTree}
use Rattle.m2_base.specs.Statics.Cells.{most_cells}
use Rattle.m2_base.specs.Statics.Closing.{block_name}
use Rattle.m2_base.specs.Statics.Contexts.{Source}
use Rattle.m2_base.specs.declared.trees.Ident.{Ident}
use Rattle.block_code.specs.BlockCode.{first_cell}
use Rattle.row_laws.specs.RowRanges.{IsCopyBelow}
use Rattle.block_laws.specs.Named.{HasCode}

-- The block has code and a name; unless it has too many cells, what is copied first stands below its temporary cells.
pub record IsMainBlock (source : Source) (before : List (List Row)) (b : BlockTree) : Type 0 where
  pub coded : HasCode b.tree.kind
  pub name : Ident
  pub named : block_name b.tree ≡ Some name
  pub copies : (declare_block source before b).value.cell ≤ most_cells
      → Each (IsCopyBelow (first_cell b.tree.kind (declare_block source before b).value.cell))
      (declare_block source before b).value.prologue
