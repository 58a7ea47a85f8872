-- What holds of a row's numbers beside the types that it names, in the scene that it is read in.
use Rattle.std.specs.Prelude.{◌≡◌, ◌≤ℤ◌, true, false, ◌||◌, List, [], ◌∷◌}
use Rattle.m2_base.specs.Rows.{row_meaning}
use Rattle.m2_base.specs.declared.rows.Place.{Place}
use Rattle.m2_base.specs.declared.rows.Row.{Row}
use Rattle.m2_base.specs.declared.rows.RowMeaning.{RowMeaning}
use Rattle.m2_base.specs.declared.rows.RowMeaning.TheVariants.{Array, Subrange, TypeName}
use Rattle.m2_base.specs.Statics.Arrays.{is_index_range}
use Rattle.m2_base.specs.Statics.Assignable.{is_open_kind}
use Rattle.m2_base.specs.Statics.Contexts.{Scene}
use Rattle.m2_base.specs.Statics.Makes.{scene_with}
use Rattle.m2_base.specs.Statics.Types.{is_broken, meaning_at, range_of}

-- an index type is in error, or has not too many values
abbrev pub IsIndex : Scene → Place → Type 0
IsIndex scene i = (is_broken scene i || is_index_range (range_of scene i)) ≡ true

-- a subrange isn't empty, an array has an index type, and a type's name is no open array's
abbrev pub Agrees : Scene → RowMeaning → Type 0
Agrees scene (Subrange b low high) = low ≤ℤ high
Agrees scene (Array i t s) = IsIndex scene i
Agrees scene (TypeName t) = is_open_kind (meaning_at scene t) ≡ false
Agrees scene other = Unit {0}

-- each row agrees with the rows before it
pub data AllAgree : Scene → List Row → Type 0 where
  none_agree : {scene : Scene} → AllAgree scene []
  more_agree : {scene : Scene} {r : Row} {rows : List Row} → Agrees scene (row_meaning r) → AllAgree (scene_with scene (r ∷ [])) rows → AllAgree scene (r ∷ rows)
