-- What the code leaves of a decision.
use Rattle.std.specs.Prelude.{◌≡◌, ℕ, List, Option}
use Rattle.m2_io.specs.Files.{Files, HasPart}
use Rattle.m2_io.specs.Written.{with_bytes}
use Rattle.object_file.specs.Contents.{object_bytes}
use Rattle.object_file.specs.Validity.{IsValid}
use Rattle.module_outcome.specs.Verdicts.{Decision, answer_to, files_after, object, object_name, printed_of}
use Rattle.module_outcome.specs.declared.answer.Answer.{Answer}

-- the answer, the files and what is printed are those that go with the decision
pub record Delivers (name : List ℕ) (d : Decision) (answer : Answer) (holds after : Option Files)
    (old new : Option (List ℕ)) : Type 0 where
  pub answer_is : answer ≡ answer_to d
  pub files_are : after ≡ files_after name d holds
  pub printed_is : new ≡ with_bytes old (printed_of name d)

-- a front of the object that is decided is put, or nothing
abbrev pub PutsPart : (name : List ℕ) → Decision → Option Files → Option Files → Type 0
PutsPart name (object contents) holds after = HasPart holds (object_name name) (object_bytes contents) after
PutsPart name other holds after = after ≡ holds

-- an object that is decided is valid
abbrev pub IsSound : Decision → Type 0
IsSound (object contents) = IsValid contents
IsSound other = Unit {0}

-- an object that is decided has this name
abbrev pub IsNamed : (name : List ℕ) → Decision → Type 0
IsNamed name (object contents) = contents.name ≡ name
IsNamed name other = Unit {0}
