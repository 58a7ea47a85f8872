-- The status that the work ended with.
use Rattle.std.specs.Prelude.{◌≡◌, ◌⊎◌, ℕ, List, Result, Ok, Err}
use Rattle.command_words.specs.Command.{Asks, Command, IsNoCommand}
use Rattle.module_outcome.specs.declared.answer.Answer.{Answer as CompileAnswer}
use Rattle.module_outcome.specs.declared.answer.Stop.TheVariants as compiling
use Rattle.module_outcome.specs.declared.answer.Stop.{Stop as CompileStop}
use Rattle.object_commands.specs.declared.answer.Answer.{Answer as ObjectAnswer}
use Rattle.object_commands.specs.declared.answer.Stop.TheVariants as objects
use Rattle.object_commands.specs.declared.answer.Stop.{Stop as ObjectStop}
use Rattle.m2c_top.specs.Statuses.{Answers, status_after, status_compiled}
use Rattle.m2c_top.specs.declared.ending.Stop.{Stop}
use Rattle.m2c_top.specs.declared.ending.Stop.TheVariants as stop
use Rattle.m2c_top.specs.declared.status.Status.{Status}
use Rattle.m2c_top.specs.declared.status.Status.TheVariants.{NoCommand, ReadFault, WriteFault, NoMemory}

abbrev pub ended_as : Result Status Stop → Status
ended_as (Ok status) = status
ended_as (Err stop.Read) = ReadFault
ended_as (Err stop.Write) = WriteFault
ended_as (Err stop.Memory) = NoMemory

-- how compiling ended
abbrev pub ended_compiling : Result CompileAnswer CompileStop → Result Status Stop
ended_compiling (Ok answer) = Ok (status_compiled answer)
ended_compiling (Err compiling.Read) = Err stop.Read
ended_compiling (Err compiling.Write) = Err stop.Write
ended_compiling (Err compiling.Memory) = Err stop.Memory

-- how a command over objects ended
abbrev pub ended_over : Result ObjectAnswer ObjectStop → Result Status Stop
ended_over (Ok answer) = Ok (status_after answer)
ended_over (Err objects.Read) = Err stop.Read
ended_over (Err objects.Write) = Err stop.Write
ended_over (Err objects.Memory) = Err stop.Memory

-- what an end without a fault is
abbrev pub IsWellEnded : List (List ℕ) → Status → Type 0
IsWellEnded words status =
    ((command : Command) × Asks words command × Answers command status) ⊎ ((status ≡ NoCommand) × IsNoCommand words)
