-- The finished rows of a unit: made in one order, scope after scope and in each item after item.
use Rattle.std.specs.Prelude.{List, [], ◌∷◌, ◌++◌}
use Rattle.m2_base.specs.Rows.{Row}
use Rattle.m2_base.specs.Standard.{standard_rows}
use Rattle.m2_base.specs.Statics.BlockRows.{declare_block}
use Rattle.m2_base.specs.Statics.Blocks.{BlockTree, UnitTrees, blocks_of}
use Rattle.m2_base.specs.Statics.Contexts.{Source}

-- the finished scopes, those before given
abbrev pub rows_from : Source → List (List Row) → List BlockTree → List (List Row)
rows_from source tables [] = tables
rows_from source tables (b ∷ blocks) = rows_from source (tables ++ (declare_block source tables b).rows ∷ []) blocks

-- The rows of all scopes. Scope 0 has the standard rows.
unfoldable pub unit_rows : UnitTrees → List (List Row)
unit_rows u = rows_from u.source (standard_rows ∷ []) (blocks_of u)
