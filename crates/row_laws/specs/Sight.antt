-- Where modules and aliases lead to from what a block sees.
use Rattle.std.specs.Prelude.{◌≡◌, ℕ, ◌<◌, ◌⊎◌, Some, slice_get}
use Rattle.m2_base.specs.Lists.{IsIn}
use Rattle.m2_base.specs.Rows.{row_meaning}
use Rattle.m2_base.specs.declared.rows.Row.{Row}
use Rattle.m2_base.specs.declared.rows.RowMeaning.{RowMeaning}
use Rattle.m2_base.specs.declared.rows.RowMeaning.TheVariants.{Alias, Module}
use Rattle.m2_base.specs.Statics.Contexts.{Block, Scene}
use Rattle.m2_base.specs.Tables.{rows_at}

-- P of the scope that a module or an alias leads to; no other row leads anywhere
abbrev pub LeadsTo : (P : ℕ → Type 0) → RowMeaning → Type 0
LeadsTo P (Module s) = P s
LeadsTo P (Alias p) = P p.scope
LeadsTo P other = Unit {0}

-- the scopes in sight of a block: those of its chain, and those of the definition modules,
-- which come before its module
abbrev pub IsInSight : Block → (scope : ℕ) → Type 0
IsInSight b s = IsIn s b.chain ⊎ (s < b.home)

-- A block's own scope and its module's are in its chain, the standard scope is in sight, and every module and alias
-- leads to a scope in sight.
pub record LeadsInSight (scene : Scene) : Type 0 where
  pub own : IsIn scene.block.scope scene.block.chain
  pub of_module : IsIn scene.block.home scene.block.chain
  pub positive : 0 < scene.block.home
  pub leads : (s o : ℕ) (r : Row) → slice_get (rows_at scene.tables s) o ≡ Some r
      → LeadsTo (IsInSight scene.block) (row_meaning r)
