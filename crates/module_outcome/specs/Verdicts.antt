-- What can be decided of a module, and what goes with it: the answer, what is printed, and what the shelf has then.
use Rattle.std.specs.Prelude.{ℕ, List, [], ◌++◌, Option, codes}
use Rattle.m2_base.specs.Units.{UnitTexts}
use Rattle.m2_base.specs.declared.notes.Diag.{Diag}
use Rattle.m2_io.specs.Files.{Files, with_file}
use Rattle.listings.specs.Listing.{unit_listing}
use Rattle.object_file.specs.Contents.{Contents, object_bytes}
use Rattle.module_outcome.specs.Limits.{limit_text}
use Rattle.module_outcome.specs.Lines.{line}
use Rattle.module_outcome.specs.declared.answer.Answer.{Answer}
use Rattle.module_outcome.specs.declared.answer.Answer.TheVariants.{Diagnosed, Done, NoText, OverLimit}
use Rattle.module_outcome.specs.declared.limit.Limit.{Limit}
use Rattle.module_outcome.specs.declared.verdict.Verdict.{Verdict}
use Rattle.module_outcome.specs.declared.verdict.Verdict.TheVariants as code

pub data Decision : Type 0 where
  no_text : Decision
  limited : Limit → Decision
  -- the diagnostics of the unit with these texts
  listed : UnitTexts → List Diag → Decision
  object : Contents → Decision

-- what the code gives, as plain data
abbrev pub decision_of : Verdict → Decision
decision_of code.NoText = no_text
decision_of (code.Limited limit) = limited limit
decision_of (code.Listed texts diags) = listed texts diags.items
decision_of (code.Compiled contents) = object contents

-- the file of a module's object
abbrev pub object_name : List ℕ → List ℕ
object_name name = name ++ codes ".m2o"

abbrev pub answer_to : Decision → Answer
answer_to no_text = NoText
answer_to (limited limit) = OverLimit
answer_to (listed unit diags) = Diagnosed
answer_to (object contents) = Done

abbrev pub printed_of : (name : List ℕ) → Decision → List ℕ
printed_of name no_text = line (codes "no text " ++ name ++ codes ".mod")
printed_of name (limited limit) = line (limit_text limit)
printed_of name (listed unit diags) = unit_listing unit diags
printed_of name (object contents) = []

-- what the shelf has, where it tells: the object is put under the module's name, and all else stays
abbrev pub files_after : (name : List ℕ) → Decision → Option Files → Option Files
files_after name no_text holds = holds
files_after name (limited limit) holds = holds
files_after name (listed unit diags) holds = holds
files_after name (object contents) holds = with_file holds (object_name name) (object_bytes contents)
