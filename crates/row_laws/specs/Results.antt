-- The result that the heading of a procedure's block binds.
use Rattle.std.specs.Prelude.{◌≡◌, ℕ, ◌<◌, List, Option, Some}
use Rattle.m2_base.specs.Statics.BlockRows.{at_item, context_of}
use Rattle.m2_base.specs.Statics.Blocks.{BlockTree, UnitTrees, home_of}
use Rattle.m2_base.specs.Statics.Contexts.{Context}
use Rattle.m2_base.specs.Statics.Declarations.{declare}
use Rattle.m2_base.specs.Statics.Items.{heading_item}
use Rattle.m2_base.specs.Statics.Layouts.{layout_of}
use Rattle.m2_base.specs.Statics.ProcedureTypes.{result_type}
use Rattle.m2_base.specs.Statics.UnitNotes.{complete_context}
use Rattle.m2_base.specs.Statics.UnitRows.{unit_rows}
use Rattle.m2_base.specs.Trees.{Heading, Stream}
use Rattle.m2_base.specs.declared.rows.Place.{Place}
use Rattle.m2_base.specs.declared.rows.Row.{Row}

-- the result of a heading that is the first item of this tree's block
abbrev pub bound_first : Context → Stream → Heading → Option Place
bound_first c tree h = (result_type (record c { layout = layout_of tree; item = Some 0 }) h.result).value

-- What a heading gives as its result, where nothing of the block is declared yet, is what it binds where all rows of
-- the block count.
abbrev pub BindsItsResult : UnitTrees → (before : List (List Row)) → BlockTree → Type 0
BindsItsResult u before b =
    home_of u < b.block.scope → (h : Heading) (cell : ℕ)
    → (declare (at_item (context_of u.source before b) 0) b.tree.kind (heading_item h) cell).value.result
    ≡ bound_first (complete_context u.source (unit_rows u) b.block) b.tree h
