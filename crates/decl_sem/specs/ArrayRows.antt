-- The rows of an array, and its index types as the code keeps them.
use Rattle.std.specs.Prelude.{◌≡◌, ℕ, List, map, length, Result, Ok, Err}
use Rattle.std.specs.declared.alloc.Global.{Global}
use Rattle.std.specs.declared.vec.Vec.{Vec}
use Rattle.m2_base.specs.Lists.{Each}
use Rattle.m2_base.specs.Rows.{array_kind}
use Rattle.m2_base.specs.States.{Frame}
use Rattle.m2_base.specs.Statics.Arrays.{array_size, checked_index}
use Rattle.m2_base.specs.Statics.Cells.{fitting}
use Rattle.m2_base.specs.Statics.Contexts.{Context}
use Rattle.m2_base.specs.Statics.Makes.{Makes, make_then, makes_row, only_gives}
use Rattle.m2_base.specs.Statics.Shapes.{Shape, nameless}
use Rattle.m2_base.specs.Statics.TypeRows.{type_rows}
use Rattle.m2_base.specs.Trees.{TypeExpr, type_at}
use Rattle.m2_base.specs.declared.memory.Memory.{Memory}
use Rattle.m2_base.specs.declared.replies.Ask.{Ask}
use Rattle.m2_base.specs.declared.replies.Ask.TheVariants.{Known, DontKnowYet}
use Rattle.m2_base.specs.declared.rows.Place.{Place}
use Rattle.m2_base.specs.declared.rows.RowMeaning.TheVariants.{Array}
use Rattle.decl_sem.specs.Pieces.{IsBehind}

-- an array for each of the index types
abbrev pub arrays_at : (at : ℕ) → List Place → List Shape
arrays_at at indexes = map (λ i. nameless array_kind at) indexes

-- the array of one index type; one of too many cells is refused, and in error
abbrev pub array_row : Context → (at : ℕ) → (index elem : Place) → Makes Place
array_row c at index elem =
    let size = array_size c index elem in
    make_then c (makes_row c at (Array index elem size)) (λ d t. only_gives (fitting d at size t))

-- one index type
abbrev pub index_row : Context → TypeExpr → Makes Place
index_row c t = make_then c (type_rows c t) (λ d u. only_gives (checked_index d (type_at t) u))

-- the index types that are answered, as a list
abbrev pub listed : Result (Ask (Vec Place Global)) Memory → Result (Ask (List Place)) Memory
listed (Ok (Known indexes)) = Ok (Known indexes.items)
listed (Ok (DontKnowYet head)) = Ok (DontKnowYet head)
listed (Err m) = Err m

-- so many index types, each of which stands before the next row
pub record AreIndexes (count : ℕ) (f : Frame) (next : ℕ) (indexes : List Place) : Type 0 where
  pub all : length indexes ≡ count
  pub behind : Each (IsBehind f next) indexes
