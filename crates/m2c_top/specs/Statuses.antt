-- The statuses, and when one is answered.
use Rattle.std.specs.Prelude.{◌≡◌, ◌↔◌, ◌⊎◌, ℕ, List}
use Rattle.command_words.specs.Command.{Command, big, compile}
use Rattle.module_outcome.specs.Answers.{Comes}
use Rattle.module_outcome.specs.declared.answer.Answer.{Answer as CompileAnswer}
use Rattle.module_outcome.specs.declared.answer.Answer.TheVariants as compiling
use Rattle.m2_io.specs.Files.{Files}
use Rattle.object_commands.specs.declared.answer.Answer.{Answer as ObjectAnswer}
use Rattle.object_commands.specs.declared.answer.Answer.TheVariants as objects
use Rattle.m2c_top.specs.declared.status.Status.{Status}
use Rattle.m2c_top.specs.declared.status.Status.TheVariants.{Done, Diagnosed, NoCommand, NoText, NoObject, ReadFault}
use Rattle.m2c_top.specs.declared.status.Status.TheVariants.{WriteFault, NoMemory, OverLimit, BadObjects, Trapped}
use Rattle.m2c_top.specs.declared.status.Status.TheVariants.{StepsSpent}

abbrev pub status_number : Status → ℕ
status_number Done = 0
status_number Diagnosed = 1
status_number NoCommand = 2
status_number NoText = 3
status_number NoObject = 3
status_number ReadFault = 4
status_number WriteFault = 5
status_number NoMemory = 6
status_number OverLimit = 7
status_number BadObjects = 8
status_number Trapped = 9
status_number StepsSpent = 10

-- a fault of reading, a fault of writing, want of memory
abbrev pub IsFault : ℕ → Type 0
IsFault status = (status ≡ 4) ⊎ (status ≡ 5) ⊎ (status ≡ 6)

-- what can be answered
abbrev pub IsStatus : ℕ → Type 0
IsStatus status = (status ≡ 0) ⊎ (status ≡ 1) ⊎ (status ≡ 2) ⊎ (status ≡ 3) ⊎ (status ≡ 7) ⊎ (status ≡ 8)
    ⊎ (status ≡ 9) ⊎ (status ≡ 10) ⊎ IsFault status

-- the status of an answer to compiling
abbrev pub status_compiled : CompileAnswer → Status
status_compiled compiling.Done = Done
status_compiled compiling.Diagnosed = Diagnosed
status_compiled compiling.NoText = NoText
status_compiled compiling.OverLimit = OverLimit

-- the status of an answer to a command over objects
abbrev pub status_after : ObjectAnswer → Status
status_after objects.Done = Done
status_after objects.NoObject = NoObject
status_after objects.OverLimit = OverLimit
status_after objects.BadObjects = BadObjects
status_after objects.Trapped = Trapped
status_after objects.StepsSpent = StepsSpent

-- what a command can answer without a fault
abbrev pub Answers : Command → Status → Type 0
Answers (compile name workers) status = (answer : CompileAnswer) × (status ≡ status_compiled answer)
Answers (big procedures workers) status = (answer : CompileAnswer) × (status ≡ status_compiled answer)
Answers _ status = (answer : ObjectAnswer) × (status ≡ status_after answer)

-- the status of compiling this module is that of the answer which comes by the files
pub record IsCompiledAs (files : Files) (name : List ℕ) (status : Status) : Type 0 where
  pub answer : CompileAnswer
  pub status_is : status ≡ status_compiled answer
  pub comes : (other : CompileAnswer) → (answer ≡ other) ↔ Comes files name other

-- The status is the wanted one exactly where the fact holds. Faults and want of memory come before it.
pub record Exactly (status wanted : ℕ) (fact : Type 0) : Type 0 where
  pub only : status ≡ wanted → fact
  pub always : fact → (status ≡ wanted) ⊎ IsFault status
