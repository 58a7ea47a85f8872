-- What a type is: the row that it stands for, its base, its range and its size. A type is the place of its row.
use Rattle.std.specs.Prelude.{Bool, None, Option, Some, pos, ℕ, ◌+◌, if◌then◌else◌, ◌-◌, ◌==◌}
use Rattle.m2_base.specs.Rows.{Array, Cardinal, Character, Enum, Integer, Opaque, Place, Record, RowMeaning, Subrange}
use Rattle.m2_base.specs.Rows.{TypeName, at_place, is_same_place, row_meaning}
use Rattle.m2_base.specs.Standard.{broken}
use Rattle.m2_base.specs.Statics.Contexts.{Scene, row_at}
use Rattle.m2_base.specs.Statics.Lookup.{Entry, entry_in}
use Rattle.m2_base.specs.Statics.Ranges.{Range, cardinal_range, integer_range, range}
use Rattle.m2_base.specs.declared.limits.TheConstants.{GREATEST_CHARACTER}

-- the meaning of a type's row
abbrev pub meaning_at : Scene → Place → RowMeaning
meaning_at scene t = row_meaning (row_at scene.tables t)

-- the second type by its row's meaning, or where that is an opaque one the first
abbrev pub unless_opaque : (t u : Place) → RowMeaning → Place
unless_opaque t u Opaque = t
unless_opaque t u other = u

-- the type of a Type name row, unless that is an opaque one; of any other row the type given
abbrev pub type_named : Scene → Place → RowMeaning → Place
type_named scene t (TypeName u) = unless_opaque t u (meaning_at scene u)
type_named scene t other = t

-- the type of the row that an entry has, or the type given
abbrev pub named_or : Scene → Place → Option Entry → Place
named_or scene t None = t
named_or scene t (Some e) = type_named scene t (row_meaning e.1)

-- the type that the module has declared under this name, or the opaque type itself
abbrev pub declared_as : Scene → Place → (name : ℕ) → Place
declared_as scene t name = if name == 0 then t else named_or scene t (entry_in scene.tables scene.block.home name)

-- what an opaque type stands for in a block with this own definition; the name stands in the row after the opaque one
abbrev pub opaque_as : Scene → Place → Option ℕ → Place
opaque_as scene t None = t
opaque_as scene t (Some own) =
    if t.scope == own then declared_as scene t (row_at scene.tables (at_place own (t.ordinal + 1))).name else t

-- an opaque type may stand for another, every other type stands for itself
abbrev pub stands_as : Scene → Place → RowMeaning → Place
stands_as scene t Opaque = opaque_as scene t scene.block.own
stands_as scene t other = t

-- Inside an implementation module an opaque type of its own definition stands for the type that the module declares
-- under that name; the name stands in the row after the opaque one. Where there is no such type, or it is opaque
-- itself, the opaque type stands for itself, as every other type does.
abbrev pub stands_for : Scene → Place → Place
stands_for scene t = stands_as scene t (meaning_at scene t)

-- the meaning of what a type stands for
abbrev pub kind_of : Scene → Place → RowMeaning
kind_of scene t = meaning_at scene (stands_for scene t)

-- the type is that of parts in error
abbrev pub is_broken : Scene → Place → Bool
is_broken scene t = is_same_place (stands_for scene t) broken

-- two types are the same where they are one row
abbrev pub is_same : Scene → Place → Place → Bool
is_same scene t u = is_same_place (stands_for scene t) (stands_for scene u)

-- the base that a subrange's row names; any other type is its own base
abbrev pub base_by : Place → RowMeaning → Place
base_by t (Subrange b low high) = b
base_by t other = t

-- the base of a subrange is its base, of any other type itself
abbrev pub base_of : Scene → Place → Place
base_of scene t = base_by (stands_for scene t) (kind_of scene t)

-- The range of INTEGER, CARDINAL, CHAR, an enumeration or a subrange; no other type has one.
abbrev pub range_by : RowMeaning → Option Range
range_by Integer = Some integer_range
range_by Cardinal = Some cardinal_range
range_by Character = Some (range (pos 0) GREATEST_CHARACTER)
range_by (Enum n) = Some (range (pos 0) (pos (n - 1)))
range_by (Subrange b low high) = Some (range low high)
range_by other = None

-- the range of an ordinal type: INTEGER, CARDINAL, CHAR, an enumeration or a subrange
abbrev pub range_of : Scene → Place → Option Range
range_of scene t = range_by (kind_of scene t)

-- the size in an array's or a record's row; for any other 1
abbrev pub size_by : RowMeaning → ℕ
size_by (Array i t s) = s
size_by (Record f s) = s
size_by other = 1

-- the cells of a type: an array's and a record's own size, for any other type 1
abbrev pub size_of : Scene → Place → ℕ
size_of scene t = size_by (kind_of scene t)
