-- The index of a scope: cells that lead from a key to the ordinal of its row. A cell is 0 where it is empty, else an
-- ordinal plus 1.
use Rattle.std.specs.Prelude.{◌≡◌, ◌≢◌, ℕ, ◌+◌, ◌*◌, ◌/◌, ◌%◌, ◌<◌, ◌≤◌, ◌^◌, List, Some, length, slice_index}
use Rattle.m2_base.specs.Keys.{row_key}
use Rattle.m2_base.specs.declared.rows.Row.{Row}
use Rattle.m2_base.specs.declared.rows.RowKey.{RowKey}
use Rattle.m2_base.specs.declared.rows.RowKey.TheVariants.{Name, Member}
use Rattle.scope_table.specs.Rows.{row_of}

-- A scope with room for so many rows has so many cells: the least power of 2 that is more than twice the rows,
-- and 2 at least.
pub record IsWidth (size w : ℕ) : Type 0 where
  pub power : ℕ
  pub some : 1 ≤ power
  pub is : w ≡ 2 ^ power
  pub more : 2 * size < w
  pub least : (k : ℕ) → 1 ≤ k → 2 * size < 2 ^ k → w ≤ 2 ^ k

-- the number by which the cells of a key are spread: of a name its own
abbrev pub seed : RowKey → ℕ
seed (Name x) = x
seed (Member own x) = (own % 4294967296 * 2246822519 + x % 4294967296) % 4294967296

-- the cell at which the search for a key of this seed begins, of so many
abbrev pub home : (w seed : ℕ) → ℕ
home w x = x * 2654435761 % 4294967296 / (4294967296 / w)

-- the cell at this distance from there, upward and around the end
abbrev pub probe : (w seed distance : ℕ) → ℕ
probe w x d = (home w x + d) % w

-- the row of this ordinal has the key, and no row before it has
pub record IsFirstOf (k : RowKey) (rows : List Row) (i : ℕ) : Type 0 where
  pub within : i < length rows
  pub keyed : row_key (row_of rows i) ≡ Some k
  pub before : (j : ℕ) → j < i → row_key (row_of rows j) ≢ Some k

-- the cell isn't empty, and it isn't that of a row of the key
pub record IsPassed (k : RowKey) (rows : List Row) (cs : List ℕ) (c : ℕ) : Type 0 where
  pub some : slice_index cs c ≢ 0
  pub other : (i : ℕ) → i < length rows → slice_index cs c ≡ i + 1 → row_key (row_of rows i) ≢ Some k

-- each cell of the ordinal lies behind an empty one, or behind that of a row of the key
abbrev pub IsHidden : ℕ → List Row → List ℕ → RowKey → (ordinal : ℕ) → Type 0
IsHidden w rows cs k o =
    (d : ℕ) → d < w → slice_index cs (probe w (seed k) d) ≡ o + 1
    → ¬ ((e : ℕ) → e < d → IsPassed k rows cs (probe w (seed k) e))

-- The first row of every key has a cell, and from its home to that cell no cell is empty, and none is that of another
-- row of the key.
abbrev pub IsIndexed : ℕ → List Row → List ℕ → Type 0
IsIndexed w rows cs = (k : RowKey) (i : ℕ) → IsFirstOf k rows i → ¬ IsHidden w rows cs k i

-- no row has two cells
abbrev pub HasOneEach : List ℕ → Type 0
HasOneEach cs = (c d : ℕ) → slice_index cs c ≢ 0 → slice_index cs d ≡ slice_index cs c → d ≡ c

-- the ordinal has no cell
abbrev pub HasNoCell : List ℕ → (ordinal : ℕ) → Type 0
HasNoCell cs o = (c : ℕ) → slice_index cs c ≢ o + 1

-- a cell that isn't empty is never changed again
abbrev pub Stays : List ℕ → List ℕ → Type 0
Stays cs ds = (c : ℕ) → slice_index cs c ≢ 0 → slice_index ds c ≡ slice_index cs c

-- the first cell from the home of a seed that is empty
pub record IsFirstEmpty (w x c : ℕ) (cs : List ℕ) : Type 0 where
  pub distance : ℕ
  pub less : distance < w
  pub is : c ≡ probe w x distance
  pub empty : slice_index cs c ≡ 0
  pub run : (e : ℕ) → e < distance → slice_index cs (probe w x e) ≢ 0

-- no cell is empty
abbrev pub IsFull : ℕ → (seed : ℕ) → List ℕ → Type 0
IsFull w x cs = (e : ℕ) → e < w → slice_index cs (probe w x e) ≢ 0

-- one of these rows has the key
abbrev pub IsAmong : RowKey → List Row → Type 0
IsAmong k rows = (j : ℕ) × (j < length rows) × (row_key (row_of rows j) ≡ Some k)
