-- What the rows of a block need so that all are well formed, and what else then holds of them.
use Rattle.std.specs.Prelude.{◌≡◌, ℕ, ◌+◌, ◌^◌, ◌<◌, ◌≤◌, List, [], ◌∷◌, length, flat_map, slice_get, Option, Some}
use Rattle.std.specs.Prelude.{None}
use Rattle.m2_base.specs.Lists.{Each}
use Rattle.m2_base.specs.Rows.{Row, Place, at_place, row_meaning, RowMeaning, Array, Record, IsWellFormed}
use Rattle.m2_base.specs.Rows.{HasSmallOrdinals}
use Rattle.m2_base.specs.Standard.{standard_rows}
use Rattle.m2_base.specs.Statics.Blocks.{BlockTree}
use Rattle.m2_base.specs.Statics.Contexts.{Source, scope_of_module, spelling}
use Rattle.m2_base.specs.Statics.Items.{Item, import_item, items_of}
use Rattle.m2_base.specs.Statics.Operands.{first_of, string_length}
use Rattle.m2_base.specs.Statics.Shapes.{item_shapes}
use Rattle.m2_base.specs.Statics.SoundTrees.{IsSoundItem}
use Rattle.m2_base.specs.Tables.{rows_at}
use Rattle.m2_base.specs.declared.limits.TheConstants.{MOST_BROUGHT}
use Rattle.m2_base.specs.declared.trees.Ident.{Ident}

-- an array and a record have at least one cell
abbrev pub IsFilled : RowMeaning → Type 0
IsFilled (Array i t size) = 1 ≤ size
IsFilled (Record f size) = 1 ≤ size
IsFilled other = Unit {0}

-- a row that is right at its place: it is well formed, its places have small ordinals, and it has cells
pub record IsRight (names : ℕ) (p : Place) (r : Row) : Type 0 where
  pub formed : IsWellFormed names p r
  pub small : HasSmallOrdinals (row_meaning r)
  pub cells : IsFilled (row_meaning r)

-- the module of an import: the one after FROM, or the name itself
abbrev pub imported_module : (from : Option Ident) → Ident → Ident
imported_module None i = i
imported_module (Some m) i = m

-- a module that is imported, or from which a name is, has a scope before the block's
abbrev pub IsImportedBefore : Source → (scope : ℕ) → Item → Type 0
IsImportedBefore source s (import_item from i) = scope_of_module source (imported_module from i).name < s
IsImportedBefore source s other = Unit {0}

-- A block over finished scopes: those before it are there and their rows are right, scope 0 is the standard one, the
-- block has not too many rows, with those that its imports bring, its numbers and names are those that tokens have,
-- and modules are imported from scopes before.
pub record IsReady (names : ℕ) (source : Source) (tables : List (List Row)) (b : BlockTree) : Type 0 where
  pub some_names : 0 < names
  pub few_names : names ≤ 2 ^ 32
  pub positive : 0 < b.block.scope
  pub before : b.block.scope ≤ length tables
  pub standard : rows_at tables 0 ≡ standard_rows
  pub right : (s o : ℕ) (r : Row) → s < b.block.scope → slice_get (rows_at tables s) o ≡ Some r
      → (o < 2 ^ 32) × IsRight names (at_place s o) r
  pub few : length (flat_map item_shapes (items_of b.tree)) + MOST_BROUGHT < 2 ^ 31
  pub short : (n : ℕ) → string_length source n < 2 ^ 32
  pub bytes : (n : ℕ) → first_of (spelling source n) < 256
  pub items : Each (IsSoundItem names) (items_of b.tree)
  pub imports : Each (IsImportedBefore source b.block.scope) (items_of b.tree)

-- the texts of the names are short, and of bytes
pub record IsSoundText (source : Source) : Type 0 where
  pub short : (n : ℕ) → string_length source n < 2 ^ 32
  pub bytes : (n : ℕ) → first_of (spelling source n) < 256

-- a block's tree, of a unit with so many names
pub record IsSoundBlock (names : ℕ) (source : Source) (b : BlockTree) : Type 0 where
  pub few : length (flat_map item_shapes (items_of b.tree)) + MOST_BROUGHT < 2 ^ 31
  pub items : Each (IsSoundItem names) (items_of b.tree)
  pub imports : Each (IsImportedBefore source b.block.scope) (items_of b.tree)

-- the scopes of the blocks are these numbers from n on: each procedure stands in a block
abbrev pub AreConsecutive : (n : ℕ) → List BlockTree → Type 0
AreConsecutive n [] = Unit {0}
AreConsecutive n (b ∷ blocks) = (b.block.scope ≡ n) × AreConsecutive (n + 1) blocks

-- all rows are right at their places
abbrev pub AreRight : (names : ℕ) → List (List Row) → Type 0
AreRight names tables =
    (s o : ℕ) (r : Row) → slice_get (rows_at tables s) o ≡ Some r → (o < 2 ^ 32) × IsRight names (at_place s o) r
