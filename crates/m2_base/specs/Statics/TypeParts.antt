-- The parts of a type: a record's fields, an array's index and elements, a pointer's target, and the parameters and
-- the result of a procedure type.
use Rattle.std.specs.Prelude.{Bool, List, None, Option, Some, [], drop, false, filter_map, find, take, ℕ}
use Rattle.std.specs.Prelude.{if◌then◌else◌, ◌-◌, ◌==◌, ◌&&◌}
use Rattle.m2_base.specs.Rows.{Array, Field, Param, Place, Pointer, ProcType, Record, Row, RowMeaning, TypeName}
use Rattle.m2_base.specs.Rows.{row_meaning}
use Rattle.m2_base.specs.Standard.{broken}
use Rattle.m2_base.specs.Statics.Contexts.{Scene, row_at}
use Rattle.m2_base.specs.Statics.Types.{kind_of, meaning_at, stands_for}
use Rattle.m2_base.specs.Tables.{rows_at}

-- the rows of a scope from an ordinal up to another
abbrev pub rows_between : Scene → (s from upto : ℕ) → List Row
rows_between scene s from upto = take (upto - from) (drop from (rows_at scene.tables s))

-- the meaning of such a field's row
abbrev pub is_field_meaning : (record_ordinal name : ℕ) → RowMeaning → Bool
is_field_meaning own name (Field t o q n) = (q == own) && (n == name)
is_field_meaning own name other = false

-- the row is a field of this name, of the record whose row has this ordinal
abbrev pub is_field : (record_ordinal name : ℕ) → Row → Bool
is_field own name r = is_field_meaning own name (row_meaning r)

-- the field of this name among a record's rows, which end before its own; nothing else has fields
abbrev pub field_by : Scene → Place → ℕ → RowMeaning → Option Row
field_by scene t name (Record first size) = find (is_field t.ordinal name) (rows_between scene t.scope first t.ordinal)
field_by scene t name other = None

-- the row of a record's field of this name
abbrev pub field_of : Scene → Place → (name : ℕ) → Option Row
field_of scene t name = field_by scene (stands_for scene t) name (kind_of scene t)

-- the row itself, where it is an array's
abbrev pub index_by : Row → RowMeaning → Option Row
index_by r (Array i t s) = Some r
index_by r other = None

-- an array's row
abbrev pub index_of : Scene → Place → Option Row
index_of scene t = index_by (row_at scene.tables (stands_for scene t)) (kind_of scene t)

-- the type of a type's name; of any other row the place itself
abbrev pub named_target : Place → RowMeaning → Place
named_target p (TypeName t) = t
named_target p other = p

-- the type that a pointer's row leads to; nothing else leads to one
abbrev pub target_by : Scene → RowMeaning → Place
target_by scene (Pointer p) = named_target p (meaning_at scene p)
target_by scene other = broken

-- the type that a pointer type leads to; a target given by the row of a type's name is that row's type
abbrev pub target_of : Scene → Place → Place
target_of scene t = target_by scene (kind_of scene t)

-- a parameter: its type, and whether it is a VAR parameter
pub record Parameter : Type 0 where
  pub typ : Place
  pub by_ref : Bool

-- what a meaning says of a parameter, where it is one of the procedure type whose row has this ordinal
abbrev pub parameter_by : (own : ℕ) → RowMeaning → Option Parameter
parameter_by own (Param t v q) = if q == own then Some (record { typ = t; by_ref = v }) else None
parameter_by own other = None

-- what a row says of such a parameter
abbrev pub parameter_of : (own : ℕ) → Row → Option Parameter
parameter_of own r = parameter_by own (row_meaning r)

-- the parameters among a procedure type's rows, which end before its own; nothing else has parameters
abbrev pub parameters_by : Scene → Place → RowMeaning → List Parameter
parameters_by scene t (ProcType result n first) =
    filter_map (parameter_of t.ordinal) (rows_between scene t.scope first t.ordinal)
parameters_by scene t other = []

-- the parameters of a procedure type, in order
abbrev pub parameters : Scene → Place → List Parameter
parameters scene t = parameters_by scene (stands_for scene t) (kind_of scene t)

-- the result in a procedure type's row
abbrev pub result_by : RowMeaning → Option Place
result_by (ProcType result n first) = result
result_by other = None

-- the result of a procedure type, if it has one
abbrev pub result_of_type : Scene → Place → Option Place
result_of_type scene t = result_by (kind_of scene t)
