-- The Scopes of one thread: tables that nobody else changes.
use Rattle.std.specs.Prelude.{◌≡◌, ℕ, ◌-◌, ◌<◌, ◌≤◌, ◌^◌, true, List, ◌∷◌, length, slice_set, slice_index, slice_get}
use Rattle.std.specs.Prelude.{replicate, Some, None}
use Rattle.m2_base.specs.Finished.{WhereFinished}
use Rattle.m2_base.specs.Lists.{IsPrefixOf, HasNoRepeats}
use Rattle.m2_base.specs.Rows.{at_place, IsWellFormed}
use Rattle.m2_base.specs.declared.rows.Row.{Row}
use Rattle.m2_base.specs.Standard.{standard_rows}
use Rattle.m2_base.specs.States.{State, mark_of}
use Rattle.m2_base.specs.Tables.{Table, table_at, rows_at, head_of, no_rows}
use Rattle.m2_base.specs.Units.{UnitTexts}
use Rattle.scope_core.specs.Kept.{with_rows, completed}

pub record Plain : Type 0 where
  pub texts : UnitTexts
  pub tables : List Table
  pub areas : List ℕ
  pub fills : ℕ

-- what it holds, as Scopes: its heads are those of its tables, and no looks are kept
abbrev pub state_of : Plain → State
state_of p =
    record {
      frame = record {
        setting = record {
          texts = p.texts;
          fills = p.fills;
          areas = p.areas;
          others = Some (slice_set p.tables p.fills no_rows);
        };
        entered = (table_at p.tables p.fills).rows;
        closed = (table_at p.tables p.fills).complete;
      };
      seen = λ s. mark_of (head_of s (table_at p.tables s));
      looks = None;
    }

-- a table has the first of these rows, and all where it is complete
pub record IsBegun (t : Table) (rows : List Row) : Type 0 where
  pub first : IsPrefixOf t.rows rows
  pub whole : t.complete ≡ true → t.rows ≡ rows

-- what always holds
pub record IsSoundly (p : Plain) : Type 0 where
  pub inside : p.fills < length p.tables
  pub sizes : length p.areas ≡ length p.tables
  pub zero_complete : (table_at p.tables 0).complete ≡ true
  pub small : (s : ℕ) → length (table_at p.tables s).rows < 2 ^ 32
  pub once : (s : ℕ) → HasNoRepeats (λ r. r.name) (table_at p.tables s).rows
  pub formed : (s k : ℕ) (r : Row) → slice_get (table_at p.tables s).rows k ≡ Some r
      → IsWellFormed (length p.texts.names) (at_place s k) r
  pub told : WhereFinished p.texts (λ finished. (s : ℕ) → IsBegun (table_at p.tables s) (rows_at finished s))

-- the same, with the room of the code's vectors
pub record IsHoused (p : Plain) (rooms : List ℕ) : Type 0 where
  pub sound : IsSoundly p
  pub room : (s : ℕ) → slice_index p.areas s ≤ slice_index rooms s
  pub narrow : (s : ℕ) → slice_index p.areas s < 2 ^ 32

-- rows are entered
abbrev pub filled : Plain → List Row → Plain
filled p rows = record { texts = p.texts; tables = with_rows p.tables p.fills rows; areas = p.areas; fills = p.fills }

-- the scope is complete
abbrev pub closed : Plain → Plain
closed p = record { texts = p.texts; tables = completed p.tables p.fills; areas = p.areas; fills = p.fills }

-- another scope is filled
abbrev pub moved : Plain → ℕ → Plain
moved p s = record { texts = p.texts; tables = p.tables; areas = p.areas; fills = s }

-- scope 0 with all its rows, and so many more scopes with none
abbrev pub standard_table : Table
standard_table = record { rows = standard_rows; complete = true }

abbrev pub first_tables : ℕ → List Table
first_tables more = standard_table ∷ replicate more no_rows

-- nothing is entered yet but scope 0, and scope 1 is filled first
abbrev pub started : UnitTexts → List ℕ → Plain
started texts sizes = record { texts = texts; tables = first_tables (length sizes - 1); areas = sizes; fills = 1 }
