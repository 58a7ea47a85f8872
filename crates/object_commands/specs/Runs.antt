-- What running a module leaves: what its program prints and reads in at most so many steps, and then a line where it
-- didn't end by itself; or the line that says why there is no program.
use Rattle.std.specs.Prelude.{◌≡◌, ◌⊎◌, ℕ, ◌<◌, ◌≤◌, List, [], ◌++◌, Option, codes, decimal, map, slice_index_or}
use Rattle.m2_io.specs.Files.{Files}
use Rattle.m2_io.specs.Written.{with_bytes, WritesPart}
use Rattle.object_file.specs.Contents.{Contents}
use Rattle.stack_machine.specs.Loading.{IsLoaded, begun, frames_of}
use Rattle.stack_machine.specs.Numbers.{code_of}
use Rattle.stack_machine.specs.Runs.{AtPlace, Halted, Traffic, Trapped, Unfinished, run_of}
use Rattle.stack_machine.specs.State.{Program, State}
use Rattle.stack_machine.specs.Step.{Goes, Next, NoFrame}
use Rattle.stack_machine.specs.declared.code.Origin.{Origin}
use Rattle.stack_machine.specs.declared.run.End.TheVariants as machine
use Rattle.stack_machine.specs.declared.run.End.{End}
use Rattle.stack_machine.specs.declared.trap.Trap.TheVariants as traps
use Rattle.stack_machine.specs.declared.trap.Trap.{Trap}
use Rattle.program_load.specs.Loads.{Failure, Loads, fails, linked}
use Rattle.object_commands.specs.Failures.{failure_answer, failure_text, line}
use Rattle.object_commands.specs.Outcomes.{Outcome}
use Rattle.object_commands.specs.declared.answer.Answer.{Answer}
use Rattle.object_commands.specs.declared.answer.Answer.TheVariants as answers

-- ** How a program ran

pub data Ran : Type 0 where
  -- to its end
  over : Ran
  -- to a trap at this place
  trapped : Trap → Origin → Ran
  -- all its steps
  spent : Ran

-- nothing is printed yet, and this is the input
abbrev pub before : (input : List ℕ) → Traffic
before input = record { out = []; input = input }

-- how at most so many steps of a program end, from its first state with this input;
-- a body that finds no room traps at once
pub data Fares (p : Program) (most : ℕ) (input : List ℕ) : Next → Ran → Traffic → Type 0 where
  ends : {first last : State} {t : Traffic} → run_of p most first (before input) ≡ Halted last t
      → Fares p most input (Goes first) over t
  traps_at : {first last : State} {t : Traffic} {c : Trap} {at : ℕ} {place : Origin}
      → run_of p most first (before input) ≡ Trapped c at last t → AtPlace place p at
      → Fares p most input (Goes first) (trapped c place) t
  spends : {first last : State} {t : Traffic} → run_of p most first (before input) ≡ Unfinished last t
      → Fares p most input (Goes first) spent t
  no_frame : {at : ℕ} {place : Origin} → AtPlace place p at
      → Fares p most input (NoFrame at) (trapped traps.Memory place) (before input)

-- ** What is said of it

abbrev pub trap_word : Trap → List ℕ
trap_word traps.Memory = codes "memory"
trap_word traps.Nil = codes "nil"
trap_word traps.Address = codes "address"
trap_word traps.Index = codes "index"
trap_word traps.Range = codes "range"
trap_word traps.Divisor = codes "divisor"
trap_word traps.Result = codes "result"
trap_word traps.Case = codes "case"
trap_word traps.Procedure = codes "procedure"

-- the name of a program's object
abbrev pub name_at : List Contents → ℕ → List ℕ
name_at os k = slice_index_or (map (λ o. o.name) os) k []

abbrev pub trap_text : List Contents → Trap → Origin → List ℕ
trap_text os c place =
    codes "trap " ++ decimal (code_of c) ++ codes " " ++ trap_word c ++ codes " in " ++ name_at os place.«module»
    ++ codes " procedure " ++ decimal place.procedure ++ codes " at " ++ decimal place.offset

-- what is printed behind the program's own output
abbrev pub ran_text : List Contents → Ran → List ℕ
ran_text os over = []
ran_text os (trapped c place) = line (trap_text os c place)
ran_text os spent = line (codes "steps spent")

abbrev pub ran_answer : Ran → Answer
ran_answer over = answers.Done
ran_answer (trapped c place) = answers.Trapped
ran_answer spent = answers.StepsSpent

-- ** The command

-- what running a program leaves
pub data RunsProgram (os : List Contents) (steps cells : ℕ) (input : List ℕ) : Outcome → Type 0 where
  no_room : cells < frames_of os
      → RunsProgram os steps cells input
      (record { answer = answers.OverLimit; printed = line (codes "limit cells " ++ decimal cells); left = input })
  runs : {p : Program} {r : Ran} {t : Traffic} → frames_of os ≤ cells → IsLoaded os p
      → Fares p steps input (begun os p cells) r t
      → RunsProgram os steps cells input
      (record { answer = ran_answer r; printed = t.out ++ ran_text os r; left = t.input })

pub data Runs (holds : Option Files) (name : List ℕ) (steps cells : ℕ) (input : List ℕ) : Outcome → Type 0 where
  failed : (f : Failure) → Loads holds name (fails f)
      → Runs holds name steps cells input
      (record { answer = failure_answer f; printed = line (failure_text name f); left = input })
  loaded : {os : List Contents} {outcome : Outcome} → Loads holds name (linked os)
      → RunsProgram os steps cells input outcome
      → Runs holds name steps cells input outcome

-- ** Of the ends of the code

-- how the machine's end says that the program ran
abbrev pub IsRan : End → Ran → Type 0
IsRan machine.Halted r = r ≡ over
IsRan machine.StepsSpent r = r ≡ spent
IsRan (machine.Trapped code m procedure offset) r =
    (c : Trap) × (code ≡ code_of c) × (r ≡ trapped c (record { «module» = m; procedure = procedure; offset = offset }))
IsRan machine.ReadFailed r = ⊥
IsRan machine.WriteFailed r = ⊥

-- it is no end of the program
abbrev pub IsFailed : End → Type 0
IsFailed end = (end ≡ machine.ReadFailed) ⊎ (end ≡ machine.WriteFailed)

-- the machine's end is how the program ran, this is the answer, and what is said of it is printed
pub record Finishes (os : List Contents) (end : End) (answer : Answer) (old new : Option (List ℕ)) : Type 0 where
  pub ran : Ran
  pub is : IsRan end ran
  pub answer_is : answer ≡ ran_answer ran
  pub printed_is : new ≡ with_bytes old (ran_text os ran)

-- a front of what is said of it is printed, or nothing where the program didn't end
pub record FinishesPart (os : List Contents) (end : End) (old new : Option (List ℕ)) : Type 0 where
  pub part : (r : Ran) → IsRan end r → WritesPart old (ran_text os r) new
  pub nothing : IsFailed end → new ≡ old

-- a trap's code is one
abbrev pub HasCode : End → Type 0
HasCode machine.Halted = Unit {0}
HasCode machine.StepsSpent = Unit {0}
HasCode (machine.Trapped code m procedure offset) = (c : Trap) × (code ≡ code_of c)
HasCode machine.ReadFailed = Unit {0}
HasCode machine.WriteFailed = Unit {0}
