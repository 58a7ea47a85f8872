-- What compiling a module leaves: the answer, what is printed, and what the shelf has.
use Rattle.std.specs.Prelude.{◌≡◌, ℕ, List, Option, Some}
use Rattle.std.specs.FinMap.{get}
use Rattle.m2_io.specs.Files.{Files, HasPart}
use Rattle.m2_io.specs.Written.{WritesPart, with_bytes}
use Rattle.object_file.specs.Contents.{Contents, object_bytes}
use Rattle.object_file.specs.Validity.{IsObject}
use Rattle.module_outcome.specs.Decisions.{Decides}
use Rattle.module_outcome.specs.Verdicts.{Decision, answer_to, files_after, object, object_name, printed_of}
use Rattle.module_outcome.specs.declared.answer.Answer.{Answer}

-- the answer, what is printed, and what the shelf has then, where it tells
pub record Outcome : Type 0 where
  pub answer : Answer
  pub printed : List ℕ
  pub files : Option Files

-- what goes with a decision
abbrev pub outcome_of : Option Files → (name : List ℕ) → Decision → Outcome
outcome_of holds name d =
    record { answer = answer_to d; printed = printed_of name d; files = files_after name d holds }

-- The outcome of compiling the module with this name: what goes with what is decided of it.
pub data Compiles (holds : Option Files) (name : List ℕ) : Outcome → Type 0 where
  as_decided : (d : Decision) → Decides holds name d → Compiles holds name (outcome_of holds name d)

-- what is left, behind what was written before
pub record Leaves (given : Outcome → Type 0) (answer : Answer) (files : Option Files)
    (old new : Option (List ℕ)) : Type 0 where
  pub outcome : Outcome
  pub is_given : given outcome
  pub answer_is : answer ≡ outcome.answer
  pub files_are : files ≡ outcome.files
  pub printed_is : new ≡ with_bytes old outcome.printed

-- the files have a valid object under this name, and it is that module's
pub record HasObject (name : List ℕ) (files : Files) : Type 0 where
  pub bytes : List ℕ
  pub contents : Contents
  pub has : get files (object_name name) ≡ Some bytes
  pub named : contents.name ≡ name
  pub valid : IsObject bytes contents

-- ** After a fault

-- a front of what the definition prints
abbrev pub PrintsPart : (Outcome → Type 0) → Option (List ℕ) → Option (List ℕ) → Type 0
PrintsPart given old new = (outcome : Outcome) → given outcome → WritesPart old outcome.printed new

-- all files stay, but that a front of the module's object may be put under its name
pub data KeepsButObject (name : List ℕ) (old new : Option Files) : Type 0 where
  keeps_all : new ≡ old → KeepsButObject name old new
  puts_part : (contents : Contents) → Decides old name (object contents)
      → HasPart old (object_name name) (object_bytes contents) new → KeepsButObject name old new
