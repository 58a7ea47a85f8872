-- The rows of set types.
use Rattle.std.specs.Prelude.{Option, None, Some, ℕ}
use Rattle.m2_base.specs.Gives.{Gives, gives}
use Rattle.m2_base.specs.Standard.{broken}
use Rattle.m2_base.specs.Statics.Contexts.{Context, refuse}
use Rattle.m2_base.specs.Statics.Diagnostics.{wrong_index}
use Rattle.m2_base.specs.declared.rows.Place.{Place}
use Rattle.m2_base.specs.declared.rows.RowMeaning.{RowMeaning}
use Rattle.m2_base.specs.declared.rows.RowMeaning.TheVariants.{Set}

-- the place and the base of a set's row
abbrev pub set_row_by : Place → RowMeaning → Option (Place × Place)
set_row_by p (Set base) = Some (p, base)
set_row_by p other = None

-- the type that a set's row gives
abbrev pub type_by : Context → (at : ℕ) → Option (Place × Place) → Gives Place
type_by c at (Some row) = gives row.0
type_by c at None = refuse c at wrong_index broken

-- the base in a set's row
abbrev pub base_by : Option (Place × Place) → Place
base_by (Some row) = row.1
base_by None = broken
