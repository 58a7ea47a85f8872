-- What compiling a module of a shelf comes to, over the texts of its unit as they stand.
use Rattle.std.specs.Prelude.{◌≡◌, ◌≢◌, ℕ, List, [], Option, Some, None}
use Rattle.m2_base.specs.Finished.{main_tokens}
use Rattle.m2_base.specs.Statics.BlockLimits.{BlockLimit, limit_of}
use Rattle.m2_base.specs.Units.{IsUnit, UnitTexts}
use Rattle.m2_base.specs.declared.notes.Diag.{Diag}
use Rattle.m2_io.specs.Files.{Files}
use Rattle.def_import.specs.Outcomes as gathering
use Rattle.def_import.specs.Outcomes.{IsGatheredFrom, StopsFrom}
use Rattle.def_import.specs.Shelves.{Has, main_file}
use Rattle.object_file.specs.Contents.{Contents}
use Rattle.unit_merge.specs.Outcome as units
use Rattle.unit_outcome.specs.Outcomes.{ComesTo}
use Rattle.module_outcome.specs.Limits.{of_procedures, of_texts}
use Rattle.module_outcome.specs.Verdicts.{Decision, limited, listed, no_text, object}
use Rattle.module_outcome.specs.declared.limit.Limit.TheVariants.{Nesting}

-- The unit of the module with this name has these texts, and nothing is wrong with their imports.
pub record HasUnit (holds : Option Files) (name : List ℕ) (unit : UnitTexts) : Type 0 where
  pub is : IsUnit unit
  pub gathered : IsGatheredFrom holds name unit []

-- The main text of the unit passes no limit on procedures, and its texts come to this.
pub record IsCutAnd (unit : UnitTexts) (outcome : units.Outcome) : Type 0 where
  pub limits : limit_of (main_tokens unit) ≡ None
  pub comes : ComesTo unit outcome

-- What is decided of a unit. Its main text passes a limit on procedures; one of its texts is nested too deep; it has
-- diagnostics; or it is compiled, and this is its object.
pub data DecidesUnit (unit : UnitTexts) : Decision → Type 0 where
  passes_procedures : (limit : BlockLimit) → limit_of (main_tokens unit) ≡ Some limit
      → DecidesUnit unit (limited (of_procedures limit))
  is_nested_too_deep : (text at : ℕ) → IsCutAnd unit (units.too_deep text at) → DecidesUnit unit (limited Nesting)
  has_diagnostics : (diags : List Diag) → IsCutAnd unit (units.diagnostics diags)
      → DecidesUnit unit (listed unit diags)
  is_compiled : (contents : Contents) → IsCutAnd unit (units.object contents) → DecidesUnit unit (object contents)

-- What is decided of the module with this name. The shelf has no text of it; a text of its unit passes a limit;
-- something is wrong with the imports of its unit; or nothing is, and this is decided of the unit.
pub data Decides (holds : Option Files) (name : List ℕ) : Decision → Type 0 where
  has_no_text : Has holds (main_file name) None → Decides holds name no_text
  passes_texts : (limit : gathering.Limit) → StopsFrom holds name limit → Decides holds name (limited (of_texts limit))
  has_wrong_imports : (unit : UnitTexts) (wrongs : List Diag) → IsGatheredFrom holds name unit wrongs → wrongs ≢ []
      → Decides holds name (listed unit wrongs)
  of_unit : {unit : UnitTexts} {d : Decision} → HasUnit holds name unit → DecidesUnit unit d → Decides holds name d
