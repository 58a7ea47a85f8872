-- The rows of the standard types.
use Rattle.std.specs.Prelude.{◌≡◌}
use Rattle.m2_base.specs.Standard.{standard_rows}
use Rattle.m2_base.specs.Statics.Contexts.{Context}
use Rattle.m2_base.specs.Tables.{rows_at}

-- they are where they belong
abbrev pub HasStandardRows : Context → Type 0
HasStandardRows c = rows_at c.scene.tables 0 ≡ standard_rows
