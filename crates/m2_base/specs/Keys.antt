-- What the index of a scope finds rows by: a name, or a record and the name of one of its fields.
use Rattle.std.specs.Prelude.{ℕ, ◌+◌, ◌==◌, ◌&&◌, ◌||◌, nat_lt, Bool, false, if◌then◌else◌, List, [], ◌∷◌, length}
use Rattle.std.specs.Prelude.{take, Option, Some, None}
use Rattle.m2_base.specs.Rows.{Row, Place, field_kind, natural}
use Rattle.m2_base.specs.Tables.{Table, head_of, table_at}
use Rattle.m2_base.specs.declared.replies.Ask.{Ask}
use Rattle.m2_base.specs.declared.replies.Ask.TheVariants.{Known, DontKnowYet as Waiting}
pub use Rattle.m2_base.specs.declared.rows.RowKey.{RowKey}
pub use Rattle.m2_base.specs.declared.rows.RowKey.TheVariants.{Name, Member}

-- the key of a row: its name; of a field without one the ordinal of its record, and its name there
unfoldable pub row_key : Row → Option RowKey
row_key r =
    if r.name == 0 then (if r.kind == field_kind then Some (Member (natural r.c) (natural r.e)) else None)
    else Some (Name r.name)

abbrev pub is_same_key : RowKey → RowKey → Bool
is_same_key (Name x) (Name y) = x == y
is_same_key (Member own x) (Member of y) = (own == of) && (x == y)
is_same_key other another = false

-- there is a key, and it is this one
abbrev pub is_keyed : RowKey → Option RowKey → Bool
is_keyed k None = false
is_keyed k (Some l) = is_same_key l k

-- the first row of this key, with its ordinal, where the first of the rows has the ordinal n
abbrev pub first_keyed : RowKey → List Row → (n : ℕ) → Option (ℕ × Row)
first_keyed k [] n = None
first_keyed k (r ∷ rows) n = if is_keyed k (row_key r) then Some (n, r) else first_keyed k rows (n + 1)

-- what is found before this ordinal
abbrev pub before_only : (upto : ℕ) → Option (ℕ × Row) → Option (ℕ × Row)
before_only m None = None
before_only m (Some hit) = if nat_lt hit.0 m then Some hit else None

-- the first field of this name among the rows before that of its record, which has this ordinal
abbrev pub field_before : List Row → (own name : ℕ) → Option (ℕ × Row)
field_before rows own name = first_keyed (Member own name) (take own rows) 0

-- of a scope with the record's row, or with all its rows
abbrev pub field_in : Table → Place → (name : ℕ) → Ask (Option (ℕ × Row))
field_in t p name =
    if t.complete || nat_lt p.ordinal (length t.rows) then Known (field_before t.rows p.ordinal name)
    else Waiting (head_of p.scope t)

-- what one thread answers of a field of the record at a place
abbrev pub one_thread_field : List Table → Place → (name : ℕ) → Ask (Option (ℕ × Row))
one_thread_field tables p name = field_in (table_at tables p.scope) p name
