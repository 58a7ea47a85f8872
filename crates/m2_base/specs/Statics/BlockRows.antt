-- What a block declares: its items one after another, each from the rows of those before.
use Rattle.std.specs.Prelude.{ℕ, ◌+◌, List, [], ◌∷◌, Option, Some, None}
use Rattle.m2_base.specs.Rows.{Row, RowMeaning, Var, row_meaning}
use Rattle.m2_base.specs.Statics.Blocks.{BlockTree}
use Rattle.m2_base.specs.Statics.Cells.{capped}
use Rattle.m2_base.specs.Statics.Contexts.{Block, Context, Named, Scene, Source, counting}
use Rattle.m2_base.specs.Statics.Declarations.{declare}
use Rattle.m2_base.specs.Statics.Effects.{BlockEffects, no_effects, joined_effects}
use Rattle.m2_base.specs.Statics.Items.{Item, items_of}
use Rattle.m2_base.specs.Statics.Layouts.{extended, layout_of}
use Rattle.m2_base.specs.Statics.Makes.{Makes, make_then, makes}
use Rattle.m2_base.specs.Statics.Types.{meaning_at, size_by}
use Rattle.m2_base.specs.Tables.{rows_at}
use Rattle.m2_base.specs.Trees.{Main, StreamKind}

-- the context at this item
abbrev pub at_item : Context → ℕ → Context
at_item c i = record c { item = Some i }

-- the context with the names that an item has brought
abbrev pub brought_in : Context → List Named → Context
brought_in c brought = record c { layout = extended c.layout brought }

-- the items from this one on, each from the rows of those before, with variables from this cell on
abbrev pub declare_items : Context → StreamKind → (item cell : ℕ) → List Item → Makes BlockEffects
declare_items c kind i cell [] = makes (no_effects cell)
declare_items c kind i cell (x ∷ items) =
    make_then c (declare (at_item c i) kind x cell) (λ d e.
    make_then d (declare_items (brought_in d e.brought) kind (i + 1) e.cell items) (λ f es.
    makes (joined_effects e es)))

-- the next cell after a row: a variable has the cells of its type
abbrev pub cell_after : Scene → (cell : ℕ) → RowMeaning → ℕ
cell_after scene cell (Var t mode offset) = capped (cell + size_by (meaning_at scene t))
cell_after scene cell other = cell

-- the next cell after these rows
abbrev pub cells_after : Scene → (cell : ℕ) → List Row → ℕ
cells_after scene cell [] = cell
cells_after scene cell (r ∷ rows) = cells_after scene (cell_after scene cell (row_meaning r)) rows

-- the own definition's variables come first among an implementation module's cells
abbrev pub first_cell : Scene → StreamKind → Option ℕ → ℕ
first_cell scene Main (Some own) = cells_after scene 0 (rows_at scene.tables own)
first_cell scene kind own = 0

-- a block over the finished scopes before it, nothing of its own made yet
abbrev pub scene_of : List (List Row) → Block → Scene
scene_of tables b = counting tables b []

-- the context of a block's declarations
abbrev pub context_of : Source → List (List Row) → BlockTree → Context
context_of source tables b =
    record { source = source; scene = scene_of tables b.block; layout = layout_of b.tree; item = None }

-- what a block declares, over the finished scopes before it
unfoldable pub declare_block : Source → List (List Row) → BlockTree → Makes BlockEffects
declare_block source tables b =
    declare_items (context_of source tables b) b.tree.kind 0
    (first_cell (scene_of tables b.block) b.tree.kind b.block.own) (items_of b.tree)
