-- What is said where there is no program: the answer and its line.
use Rattle.std.specs.Prelude.{◌≡◌, ℕ, List, [], ◌∷◌, ◌++◌, Option, Some, None, codes, decimal, option_map}
use Rattle.m2_link.specs.Refusals.{Refusal, key_differs, missing, twice}
use Rattle.m2_io.specs.Written.{with_bytes, WritesPart}
use Rattle.program_load.specs.Answers.{told}
use Rattle.program_load.specs.declared.fault.LoadFault.{LoadFault}
use Rattle.program_load.specs.Loads.{Failure, Limit, broken, limited, no_object, object_bytes, objects, refused}
use Rattle.object_commands.specs.declared.answer.Answer.{Answer}
use Rattle.object_commands.specs.declared.answer.Answer.TheVariants.{BadObjects, NoObject, OverLimit}

abbrev pub line : List ℕ → List ℕ
line text = text ++ 10 ∷ []

abbrev pub limit_text : Limit → List ℕ
limit_text object_bytes = codes "limit object bytes 67108864"
limit_text objects = codes "limit objects 256"

abbrev pub refusal_text : Refusal → List ℕ
refusal_text (twice name) = codes "link twice " ++ name
refusal_text (missing name) = codes "link missing " ++ name
refusal_text (key_differs name) = codes "link key differs " ++ name

abbrev pub failure_text : (main : List ℕ) → Failure → List ℕ
failure_text main no_object = codes "no object " ++ main ++ codes ".m2o"
failure_text main (limited limit) = limit_text limit
failure_text main (broken name offset code) =
    codes "bad object " ++ name ++ codes ".m2o at " ++ decimal offset ++ codes " code " ++ decimal code
failure_text main (refused r) = refusal_text r

abbrev pub failure_answer : Failure → Answer
failure_answer no_object = NoObject
failure_answer (limited limit) = OverLimit
failure_answer (broken name offset code) = BadObjects
failure_answer (refused r) = BadObjects

-- ** Of the faults of the code

-- the line for a fault that says why there is no program
abbrev pub line_told : (main : List ℕ) → LoadFault → Option (List ℕ)
line_told main fault = option_map (λ f. line (failure_text main f)) (told fault)

-- the fault says why there is no program, this is the answer, and the line is printed
pub record Says (main : List ℕ) (fault : LoadFault) (answer : Answer) (old new : Option (List ℕ)) : Type 0 where
  pub failure : Failure
  pub told_is : told fault ≡ Some failure
  pub answer_is : answer ≡ failure_answer failure
  pub printed_is : new ≡ with_bytes old (line (failure_text main failure))

-- a front of the line is printed, or nothing where the fault doesn't say why there is no program
pub record SaysPart (main : List ℕ) (fault : LoadFault) (old new : Option (List ℕ)) : Type 0 where
  pub part : (f : Failure) → told fault ≡ Some f → WritesPart old (line (failure_text main f)) new
  pub nothing : told fault ≡ None → new ≡ old
