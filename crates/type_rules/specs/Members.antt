-- The rows of a record's fields.
use Rattle.m2_base.specs.States.{Frame}
use Rattle.m2_base.specs.declared.rows.RowMeaning.{RowMeaning}
use Rattle.m2_base.specs.declared.rows.RowMeaning.TheVariants.{Field}
use Rattle.type_rules.specs.Scenes.{IsThere}

-- the type of a field can be asked for
abbrev pub IsFieldThere : Frame → RowMeaning → Type 0
IsFieldThere f (Field t o r n) = IsThere f t
IsFieldThere f other = Unit {0}
