-- When each answer comes, by the files of the shelf.
use Rattle.std.specs.Prelude.{ℕ, List, None, Some}
use Rattle.m2_base.specs.Units.{UnitTexts}
use Rattle.m2_base.specs.declared.notes.Diag.{Diag}
use Rattle.m2_io.specs.Files.{Files}
use Rattle.def_import.specs.Shelves.{Has, main_file}
use Rattle.object_file.specs.Contents.{Contents}
use Rattle.module_outcome.specs.Decisions.{Decides}
use Rattle.module_outcome.specs.Verdicts.{limited, listed, object}
use Rattle.module_outcome.specs.declared.answer.Answer.{Answer}
use Rattle.module_outcome.specs.declared.answer.Answer.TheVariants.{Diagnosed, Done, NoText, OverLimit}
use Rattle.module_outcome.specs.declared.limit.Limit.{Limit}

-- the module has no text; it passes a limit; it has diagnostics; it is compiled
abbrev pub Comes : Files → (name : List ℕ) → Answer → Type 0
Comes files name NoText = Has (Some files) (main_file name) None
Comes files name OverLimit = (limit : Limit) × Decides (Some files) name (limited limit)
Comes files name Diagnosed = (unit : UnitTexts) × (diags : List Diag) × Decides (Some files) name (listed unit diags)
Comes files name Done = (contents : Contents) × Decides (Some files) name (object contents)
