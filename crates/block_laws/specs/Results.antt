-- The result that the statements of a procedure return.
use Rattle.std.specs.Prelude.{◌≡◌, ℕ, ◌<◌, List, Some}
use Rattle.m2_base.specs.Statics.BlockRows.{at_item, context_of}
use Rattle.m2_base.specs.Statics.Blocks.{BlockTree, UnitTrees, home_of}
use Rattle.m2_base.specs.Statics.Declarations.{declare}
use Rattle.m2_base.specs.Statics.Items.{heading_item}
use Rattle.m2_base.specs.Statics.UnitNotes.{complete_context}
use Rattle.m2_base.specs.Statics.UnitRows.{unit_rows}
use Rattle.m2_base.specs.Trees.{Heading}
use Rattle.m2_base.specs.declared.rows.Row.{Row}
use Rattle.block_code.specs.BlockCode.{result_by}

-- what the heading of a procedure's block gives as its result is that of its statements
abbrev pub ReturnsItsResult : UnitTrees → (before : List (List Row)) → BlockTree → Type 0
ReturnsItsResult u before b =
    home_of u < b.block.scope → (h : Heading) (cell : ℕ) → b.tree.heading ≡ Some h
    → (declare (at_item (context_of u.source before b) 0) b.tree.kind (heading_item h) cell).value.result
    ≡ result_by (complete_context u.source (unit_rows u) b.block) b.tree
