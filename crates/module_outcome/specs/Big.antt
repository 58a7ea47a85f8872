-- What is counted of the module Big of so many procedures, when it is compiled over the files of a shelf.
use Rattle.std.specs.Prelude.{◌≡◌, ◌≢◌, ℕ, List, [], Option, codes}
use Rattle.m2_base.specs.Units.{IsUnit, UnitTexts}
use Rattle.m2_base.specs.declared.notes.Diag.{Diag}
use Rattle.m2_io.specs.Files.{Files}
use Rattle.m2_io.specs.Written.{WritesPart, with_bytes}
use Rattle.def_import.specs.Outcomes as gathering
use Rattle.def_import.specs.Outcomes.{IsGathered, Stops}
use Rattle.module_gen.specs.BigModule.{text_of}
use Rattle.module_outcome.specs.Counts.{Tells, answer_by, import_counts, printed_by}
use Rattle.module_outcome.specs.Decisions.{DecidesUnit}
use Rattle.module_outcome.specs.Limits.{of_texts}
use Rattle.module_outcome.specs.Verdicts.{Decision}
use Rattle.module_outcome.specs.declared.answer.Answer.{Answer}
use Rattle.module_outcome.specs.declared.summary.Summary.{Summary}
use Rattle.module_outcome.specs.declared.summary.Summary.TheVariants.{Counted, Limited}

-- The module of n procedures has a unit of these texts, and this is wrong with their imports.
pub record HasBigUnit (holds : Option Files) (n : ℕ) (unit : UnitTexts) (wrongs : List Diag) : Type 0 where
  pub is : IsUnit unit
  pub gathered : IsGathered holds (codes "Big") (text_of n) unit wrongs

-- This is told of a whole unit, by what is decided of it.
pub record TellsUnit (unit : UnitTexts) (summary : Summary) : Type 0 where
  pub decision : Decision
  pub decides : DecidesUnit unit decision
  pub tells : Tells unit decision summary

-- What is told of the module of n procedures. A text of its unit passes a limit; something is wrong with the imports
-- of its unit; or nothing is, and this is told of the unit.
pub data TellsBig (holds : Option Files) (n : ℕ) : Summary → Type 0 where
  passes_texts : (limit : gathering.Limit) → Stops holds (codes "Big") (text_of n) limit
      → TellsBig holds n (Limited (of_texts limit))
  has_wrong_imports : (unit : UnitTexts) (wrongs : List Diag) → HasBigUnit holds n unit wrongs → wrongs ≢ []
      → TellsBig holds n (Counted (import_counts unit wrongs))
  of_unit : {unit : UnitTexts} {summary : Summary} → HasBigUnit holds n unit [] → TellsUnit unit summary
      → TellsBig holds n summary

-- The answer, and what is printed: what goes with what is told of the module.
pub data Summarizes (holds : Option Files) (n : ℕ) : Answer → (printed : List ℕ) → Type 0 where
  as_told : (summary : Summary) → TellsBig holds n summary
      → Summarizes holds n (answer_by summary) (printed_by n summary)

-- this is answered and printed, behind what was written before
pub record LeavesSummary (holds : Option Files) (n : ℕ) (answer : Answer) (old new : Option (List ℕ)) : Type 0 where
  pub printed : List ℕ
  pub is : Summarizes holds n answer printed
  pub printed_is : new ≡ with_bytes old printed

-- a front of what the definition prints
abbrev pub PrintsSummaryPart : Option Files → (n : ℕ) → Option (List ℕ) → Option (List ℕ) → Type 0
PrintsSummaryPart holds n old new =
    (answer : Answer) (printed : List ℕ) → Summarizes holds n answer printed → WritesPart old printed new
