-- How many rows each scope has at most by its tree, for comparison with its room.
use Rattle.std.specs.Prelude.{ℕ, ◌+◌, if◌then◌else◌, List, [], ◌∷◌, length, map}
use Rattle.std.specs.List.{list_any}
use Rattle.m2_base.specs.Standard.{standard_rows}
use Rattle.m2_base.specs.Statics.Bringing.{may_bring}
use Rattle.m2_base.specs.Statics.Items.{Item, items_of}
use Rattle.m2_base.specs.Statics.Layouts.{layout_of}
use Rattle.m2_base.specs.Trees.{Stream}
use Rattle.m2_base.specs.declared.limits.TheConstants.{MOST_BROUGHT}

abbrev pub last_of : List ℕ → ℕ
last_of [] = 0
last_of (n ∷ []) = n
last_of (n ∷ next ∷ ns) = last_of (next ∷ ns)

-- how many rows a block declares by its syntax: all of its items' rows, with those that have no name
abbrev pub rows_of : Stream → ℕ
rows_of tree = last_of (layout_of tree).firsts

-- how many rows the imports among these items bring at most
abbrev pub most_brought : List Item → ℕ
most_brought items = if list_any may_bring items then MOST_BROUGHT else 0

-- how many rows a block has at most: those of its items, and those that its imports bring
abbrev pub most_rows : Stream → ℕ
most_rows tree = rows_of tree + most_brought (items_of tree)

-- how many rows each scope has at most, where scope 0 has the standard rows and the others are those of these trees
abbrev pub most_rows_of_scopes : List Stream → List ℕ
most_rows_of_scopes trees = length standard_rows ∷ map most_rows trees
