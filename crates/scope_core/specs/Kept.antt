-- What the code keeps of a scope, and how it changes.
use Rattle.std.specs.Prelude.{◌≡◌, ℕ, true, List, ◌++◌, Option, map, slice_set}
use Rattle.std.specs.Option.{option_map}
use Rattle.m2_base.specs.declared.rows.Row.{Row}
use Rattle.m2_base.specs.declared.rows.RowKey.{RowKey}
use Rattle.m2_base.specs.Keys.{first_keyed}
use Rattle.m2_base.specs.Tables.{Table, table_at}

-- a scope's table, and for how many rows there is room
pub record TableWithRoom : Type 0 where
  pub table : Table
  pub room : ℕ

-- each key leads to the ordinal of its first row
abbrev pub IsIndexOf : (RowKey → Option ℕ) → List Row → Type 0
IsIndexOf index rows = (key : RowKey) → index key ≡ option_map (λ hit. hit.0) (first_keyed key rows 0)

abbrev pub tables_in : List TableWithRoom → List Table
tables_in kept = map (λ k. k.table) kept

-- for how many rows each scope has room
abbrev pub rooms_in : List TableWithRoom → List ℕ
rooms_in kept = map (λ k. k.room) kept

-- a table with more rows
abbrev pub longer : Table → List Row → Table
longer t rows = record { rows = t.rows ++ rows; complete = t.complete }

-- a table, marked as complete
abbrev pub marked : Table → Table
marked t = record { rows = t.rows; complete = true }

-- rows are added to a scope
abbrev pub with_rows : List Table → ℕ → List Row → List Table
with_rows tables s rows = slice_set tables s (longer (table_at tables s) rows)

-- a scope is marked as complete
abbrev pub completed : List Table → ℕ → List Table
completed tables s = slice_set tables s (marked (table_at tables s))
