-- What a block's code can name by its rows: the rows in sight of the block, and what is asked of them so that the code
-- names what is there.
use Rattle.std.specs.Prelude.{◌≡◌, ℕ, ◌+◌, ◌<◌, ◌==◌, ◌⊎◌, true, Option, Some, None, slice_get}
use Rattle.code_form.specs.Heights.{Step, step_among}
use Rattle.code_form.specs.Modules.{Procedure, World}
use Rattle.code_form.specs.Valid.{callees_of, names_what_is_there}
use Rattle.code_form.specs.declared.instr.Instr.{Instr}
use Rattle.code_form.specs.declared.instr.Instr.TheVariants.{Proc as ProcValue}
use Rattle.m2_base.specs.Lists.{IsIn}
use Rattle.m2_base.specs.Rows.{row_meaning}
use Rattle.m2_base.specs.declared.rows.RowMeaning.TheVariants.{Alias, Module, Proc, Var}
use Rattle.m2_base.specs.declared.rows.Mode.{Mode}
use Rattle.m2_base.specs.declared.rows.Mode.TheVariants.{Open}
use Rattle.m2_base.specs.declared.rows.Place.{Place}
use Rattle.m2_base.specs.declared.rows.Row.{Row}
use Rattle.m2_base.specs.declared.rows.RowMeaning.{RowMeaning}
use Rattle.m2_base.specs.Statics.Contexts.{Block, Scene, level_of}
use Rattle.m2_base.specs.Statics.TypeParts.{parameters, result_of_type}
use Rattle.m2_base.specs.Tables.{rows_at}
use Rattle.block_code.specs.Calls.{call_instr, cells_of_all, result_cells}
use Rattle.block_code.specs.ProcedureNames.{Target, import_of_target, target_of_procedure}
use Rattle.block_code.specs.Variables.{cell_instr}

-- a row of this name and meaning is in a scope that is seen
pub record IsDeclared (seen : ℕ → Type 0) (scene : Scene) (name : ℕ) (m : RowMeaning) : Type 0 where
  pub place : Place
  pub row : Row
  pub in_sight : seen place.scope
  pub there : slice_get (rows_at scene.tables place.scope) place.ordinal ≡ Some row
  pub means : row_meaning row ≡ m
  pub named : row.name ≡ name

-- scopes that are seen: those of the chain, that of the standard names, and what modules and aliases lead to
pub record Sees (seen : ℕ → Type 0) (scene : Scene) : Type 0 where
  pub chain : (s : ℕ) → IsIn s scene.block.chain → seen s
  pub own : seen scene.block.scope
  pub standard : seen 0
  pub modules : (name s : ℕ) → IsDeclared seen scene name (Module s) → seen s
  pub aliases : (name : ℕ) (p : Place) → IsDeclared seen scene name (Alias p) → seen p.scope

-- the scopes in sight of a block: those of its chain, and those of the definition modules,
-- which come before its module
abbrev pub IsInSight : Block → (scope : ℕ) → Type 0
IsInSight b s = IsIn s b.chain ⊎ (s < b.home)

-- the call of a procedure of this type
abbrev pub call_step : Scene → Place → Instr → (more : ℕ) → Step
call_step scene t i more =
    record {
      instr = i;
      takes = cells_of_all scene (parameters scene t) + more;
      leaves = result_cells (result_of_type scene t);
    }

-- the procedure as a value; the module lacks it where there is none
abbrev pub value_instr : Scene → Option Target → Instr
value_instr scene None = ProcValue 0 0
value_instr scene (Some p) = ProcValue (import_of_target scene.block p) p.number

-- The rows of the scopes that are seen name what is there, for the code of procedure k: the cells of each variable,
-- each procedure that may be a value, and each procedure that may be called, which takes and leaves what its type
-- says. Modules and aliases lead to scopes that are seen.
pub record RowsNameThere (seen : ℕ → Type 0) (w : World) (k : ℕ) (p : Procedure) (scene : Scene) : Type 0 where
  pub sight : Sees seen scene
  pub cells : (name : ℕ) (t : Place) (mode : Mode) (o : ℕ) (d : IsDeclared seen scene name (Var t mode o))
      → names_what_is_there w k p (cell_instr scene.block d.place.scope o) ≡ true
  pub second_cells : (name : ℕ) (t : Place) (o : ℕ) (d : IsDeclared seen scene name (Var t Open o))
      → names_what_is_there w k p (cell_instr scene.block d.place.scope (o + 1)) ≡ true
  pub values : (name : ℕ) (t : Place) (number s : ℕ) → IsDeclared seen scene name (Proc t number s)
      → (level_of scene.block t.scope == 0) ≡ true
      → names_what_is_there w k p (value_instr scene (target_of_procedure scene name t number)) ≡ true
  pub calls : (name : ℕ) (t : Place) (number s : ℕ) (q : Target) → IsDeclared seen scene name (Proc t number s)
      → target_of_procedure scene name t number ≡ Some q
      → (names_what_is_there w k p (call_instr scene q) ≡ true)
      × (step_among (callees_of w p) (call_instr scene q) ≡ call_step scene t (call_instr scene q) 0)
