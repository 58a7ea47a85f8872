-- What a name stands for in one scope or in a chain of scopes: the first row of that name, with its place.
use Rattle.std.specs.Prelude.{ℕ, ◌+◌, ◌==◌, nat_lt, Bool, List, [], ◌∷◌, Option, Some, None, is_some, find, filter}
use Rattle.std.specs.Prelude.{length, option_map}
use Rattle.m2_base.specs.Rows.{Row, Place}
use Rattle.m2_base.specs.Tables.{lookup}
use Rattle.m2_base.specs.Statics.Contexts.{Layout, Named, Scene, row_at}

-- a row with its place
abbrev pub Entry : Type 0
Entry = Place × Row

-- the row at a place, with the place
abbrev pub entry_at : Scene → Place → Entry
entry_at scene p = (p, row_at scene.tables p)

-- the first row of a scope that has the name
abbrev pub entry_in : List (List Row) → (scope name : ℕ) → Option Entry
entry_in tables s name = lookup tables (s ∷ []) name

-- a row of the scope has the name
abbrev pub has_name : List (List Row) → (scope name : ℕ) → Bool
has_name tables s name = is_some (entry_in tables s name)

-- the first of these entries that has the name
abbrev pub entry_named : List Named → (name : ℕ) → Option Named
entry_named names name = find (λ n. n.name == name) names

-- how many of these names were brought by items before this one
abbrev pub brought_before : (brought : List Named) → (item : ℕ) → ℕ
brought_before brought item = length (filter (λ b. nat_lt b.item item) brought)

-- an entry of the syntax with the ordinal of its row, which stands behind what earlier items have brought
abbrev pub moved : (brought : List Named) → Named → Named
moved brought n = record n { ordinal = n.ordinal + brought_before brought n.item }

-- the first of two entries
abbrev pub entry_or : Option Named → Option Named → Option Named
entry_or (Some n) other = Some n
entry_or None other = other

-- The first entry of a layout under a name. No import brings a name that an earlier item gives, so what is brought
-- comes before what the syntax declares.
abbrev pub first_entry : Layout → (name : ℕ) → Option Named
first_entry l name = entry_or (entry_named l.brought name) (option_map (moved l.brought) (entry_named l.names name))
