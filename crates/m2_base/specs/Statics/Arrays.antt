-- Arrays and sets: their index types and bases, and the rows of arrays.
use Rattle.std.specs.Prelude.{Bool, List, None, Option, Some, [], false, int_le, nat_lt, pos, ℕ, ◌+◌, if◌then◌else◌}
use Rattle.std.specs.Prelude.{◌∷◌, ◌&&◌, ◌*◌, ◌||◌, max}
use Rattle.m2_base.specs.Gives.{Gives, gives}
use Rattle.m2_base.specs.Rows.{Array, Place}
use Rattle.m2_base.specs.Standard.{broken}
use Rattle.m2_base.specs.Statics.Cells.{capped, fitting, most_cells}
use Rattle.m2_base.specs.Statics.Contexts.{Context, refuse}
use Rattle.m2_base.specs.Statics.Diagnostics.{wrong_index}
use Rattle.m2_base.specs.Statics.Makes.{Makes, make_then, makes, makes_row, only_gives}
use Rattle.m2_base.specs.Statics.Ranges.{Range, count_of}
use Rattle.m2_base.specs.Statics.Types.{is_broken, range_of, size_of}
use Rattle.m2_base.specs.declared.limits.TheConstants.{GREATEST_ELEMENT}

-- a range that an index type may have: at most 16,777,215 values
abbrev pub is_index_range : Option Range → Bool
is_index_range None = false
is_index_range (Some r) = nat_lt (count_of r) (most_cells + 1)

-- an index type is ordinal, with not too many values
abbrev pub checked_index : Context → (at : ℕ) → Place → Gives Place
checked_index c at t =
    if is_broken c.scene t || is_index_range (range_of c.scene t) then gives t else refuse c at wrong_index broken

-- a range that the base of a set may have: within 0..31
abbrev pub is_set_range : Option Range → Bool
is_set_range None = false
is_set_range (Some r) = int_le (pos 0) r.low && int_le r.high GREATEST_ELEMENT

-- a set's base is ordinal, within 0..31
abbrev pub checked_base : Context → (at : ℕ) → Place → Gives Place
checked_base c at t =
    if is_broken c.scene t || is_set_range (range_of c.scene t) then gives t else refuse c at wrong_index broken

-- the number of values of a range; what has none counts as one value
abbrev pub count_by : Option Range → ℕ
count_by None = 1
count_by (Some r) = count_of r

-- the elements of an array, an index type in error counting as one value
abbrev pub elements : Context → Place → ℕ
elements c index = if is_broken c.scene index then 1 else count_by (range_of c.scene index)

-- the cells of an array: its elements times the size of one, at least 1
abbrev pub array_size : Context → (index elem : Place) → ℕ
array_size c index elem = capped (max 1 (elements c index * size_of c.scene elem))

-- the arrays of several index types, the last of which is the innermost array and comes first
abbrev pub array_rows : Context → (at : ℕ) → (last_first : List Place) → (elem : Place) → Makes Place
array_rows c at [] elem = makes elem
array_rows c at (index ∷ outer) elem =
    let size = array_size c index elem in
    make_then c (makes_row c at (Array index elem size)) (λ d t.
    make_then d (only_gives (fitting d at size t)) (λ e u.
    array_rows e at outer u))
