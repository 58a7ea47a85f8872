-- What the finished rows keep to, so that a block's code has its operands in their ranges,
-- and names cells that are there.
use Rattle.std.specs.Prelude.{◌≡◌, ℕ, ◌+◌, ◌^◌, ◌<◌, ◌≤◌, false, List, [], ◌∷◌, ◌++◌, length, Option, Some, None}
use Rattle.std.specs.Prelude.{slice_get}
use Rattle.m2_base.specs.Lists.{Each, IsPrefixOf, WhereKept}
use Rattle.m2_base.specs.Names.{standard_names}
use Rattle.m2_base.specs.Rows.{IsSmall, IsValue, row_meaning}
use Rattle.m2_base.specs.declared.rows.Mode.TheVariants.{Open}
use Rattle.m2_base.specs.declared.rows.Row.{Row}
use Rattle.m2_base.specs.declared.rows.RowMeaning.{RowMeaning}
use Rattle.m2_base.specs.declared.rows.RowMeaning.TheVariants.{Const, Var, Proc, Field, Enum, Subrange, Array, Record}
use Rattle.m2_base.specs.declared.trees.declarations.StreamKind.TheVariants.{Main}
use Rattle.m2_base.specs.Tables.{rows_at}
use Rattle.m2_base.specs.Statics.BlockRows.{declare_block}
use Rattle.m2_base.specs.Statics.Blocks.{BlockTree, UnitTrees, blocks_of, home_of}
use Rattle.m2_base.specs.Statics.Cells.{most_cells}
use Rattle.m2_base.specs.Statics.Contexts.{Scene, Source}
use Rattle.m2_base.specs.Statics.Effects.{BlockEffects, ParamCopy, open_copy, own_copy}
use Rattle.m2_base.specs.Statics.FormedRows.{AreConsecutive, IsSoundBlock, IsSoundText}
use Rattle.m2_base.specs.Statics.Ranges.{Range, count_of}
use Rattle.m2_base.specs.Statics.Types.{is_broken, range_of}
use Rattle.m2_base.specs.Statics.UnitNotes.{complete_context}

-- ** Ranges of values

-- an index type has a value, and at most 16,777,215 of them
abbrev pub IsIndexRange : Option Range → Type 0
IsIndexRange None = Unit {0}
IsIndexRange (Some r) = (1 ≤ count_of r) × (count_of r ≤ most_cells)

-- The numbers of a row are operands: values of constants and bounds are values, other numbers have 32 bits, an array
-- and a record have a cell, and an array's index type, unless it is in error, is one.
abbrev pub HasOperands : Scene → RowMeaning → Type 0
HasOperands scene (Const t v len) = IsValue v × IsSmall len
HasOperands scene (Var t mode offset) = IsSmall (offset + 1)
HasOperands scene (Proc t number s) = IsSmall t.scope × IsSmall number
HasOperands scene (Field t offset own name) = IsSmall offset
HasOperands scene (Enum n) = IsSmall n
HasOperands scene (Subrange base low high) = IsValue low × IsValue high
HasOperands scene (Array index elem size) =
    (1 ≤ size) × IsSmall size × (is_broken scene index ≡ false → IsIndexRange (range_of scene index))
HasOperands scene (Record first size) = (1 ≤ size) × IsSmall size
HasOperands scene other = Unit {0}

-- the rows of a scene: there are not too many, and their numbers are operands
pub record RowsInRange (scene : Scene) : Type 0 where
  pub scopes : length scene.tables ≤ 2 ^ 32
  pub few : (s : ℕ) → length (rows_at scene.tables s) < 2 ^ 31
  pub rows : (s o : ℕ) (r : Row) → slice_get (rows_at scene.tables s) o ≡ Some r → HasOperands scene (row_meaning r)

-- the numbers of what a procedure's body copies first have 32 bits
abbrev pub IsCopyInRange : ParamCopy → Type 0
IsCopyInRange (own_copy own cell size) = IsSmall own × IsSmall cell × IsSmall size
IsCopyInRange (open_copy cell size) = IsSmall cell × IsSmall size

-- what a block declares: its next free cell is at most one too many, and what is copied first is in range
pub record EffectsInRange (e : BlockEffects) : Type 0 where
  pub cell : e.cell ≤ most_cells + 1
  pub copies : Each IsCopyInRange e.prologue

-- a block over finished scopes, those before it and all
pub record BlockInRange (source : Source) (before all : List (List Row)) (b : BlockTree) : Type 0 where
  pub rows : RowsInRange (complete_context source all b.block).scene
  pub effects : EffectsInRange (declare_block source before b).value
  pub level : IsSmall b.block.level
  pub text : IsSoundText source

-- ** Cells

-- a variable's cell, and of an open array the second one too, is below this one
abbrev pub IsBelow : (cells : ℕ) → RowMeaning → Type 0
IsBelow cells (Var t Open offset) = offset + 1 < cells
IsBelow cells (Var t mode offset) = offset < cells
IsBelow cells other = Unit {0}

-- the cells of what is copied first are below this one
abbrev pub IsCopyBelow : (cells : ℕ) → ParamCopy → Type 0
IsCopyBelow cells (own_copy own cell size) = (own < cells) × (cell < cells)
IsCopyBelow cells (open_copy cell size) = cell + 1 < cells

-- Unless a block has too many cells, the cells of these rows and of what is copied first are below the next free one.
-- The rows are the block's own, and of an implementation module also its own definition's.
pub record CellsAreThere (rows : List Row) (e : BlockEffects) : Type 0 where
  pub variables : e.cell ≤ most_cells → Each (λ r. IsBelow e.cell (row_meaning r)) rows
  pub copies : e.cell ≤ most_cells → Each (IsCopyBelow e.cell) e.prologue

-- of an implementation module's block the cells of its own definition's variables are there too
abbrev pub OwnCellsAreThere : (all : List (List Row)) → BlockTree → BlockEffects → Type 0
OwnCellsAreThere all b e =
    (own : ℕ) → b.tree.kind ≡ Main → b.tree.heading ≡ None → b.block.own ≡ Some own → CellsAreThere (rows_at all own) e

-- ** Units

-- What is asked of a unit's trees: its names begin with the standard ones and are numbers of 32 bits, its blocks have
-- the scopes from 1 on, and their trees have what tokens have; its own definition comes before the module,
-- and definitions have no heading.
pub record IsSoundUnit (names : List (List ℕ)) (u : UnitTrees) : Type 0 where
  pub standard : IsPrefixOf standard_names names
  pub some : 0 < length names
  pub few : length names ≤ 2 ^ 32
  pub text : IsSoundText u.source
  pub scopes : AreConsecutive 1 (blocks_of u)
  pub blocks : Each (IsSoundBlock (length names) u.source) (blocks_of u)
  pub count : length (blocks_of u) < 2 ^ 32
  pub own : WhereKept u.own (λ s. s < home_of u)
  pub headings : Each (λ b. b.block.scope < home_of u → b.tree.heading ≡ None) (blocks_of u)

-- P of each of these blocks, over the finished scopes before it
abbrev pub EachBlock : (P : List (List Row) → BlockTree → Type 0) → Source → (before : List (List Row))
    → List BlockTree → Type 0
EachBlock P source before [] = Unit {0}
EachBlock P source before (b ∷ blocks) =
    P before b × EachBlock P source (before ++ (declare_block source before b).rows ∷ []) blocks
