-- That the procedures of an implementation module's own definition have names.
use Rattle.std.specs.Prelude.{◌≢◌, ℕ}
use Rattle.m2_base.specs.Lists.{Each, WhereKept}
use Rattle.m2_base.specs.Rows.{row_meaning}
use Rattle.m2_base.specs.Statics.Blocks.{UnitTrees}
use Rattle.m2_base.specs.Statics.UnitRows.{unit_rows}
use Rattle.m2_base.specs.Tables.{rows_at}
use Rattle.m2_base.specs.declared.rows.RowMeaning.TheVariants.{Proc}
use Rattle.m2_base.specs.declared.rows.RowMeaning.{RowMeaning}

-- the row of a procedure has a name
abbrev pub IsNamedProcedure : (name : ℕ) → RowMeaning → Type 0
IsNamedProcedure name (Proc t k s) = name ≢ 0
IsNamedProcedure name other = Unit {0}

-- each procedure of the own definition has a name: the second of a name has none, and was refused
abbrev pub HasNamedHeadings : UnitTrees → Type 0
HasNamedHeadings u =
    WhereKept u.own (λ own. Each (λ r. IsNamedProcedure r.name (row_meaning r)) (rows_at (unit_rows u) own))
