-- What the words of a command line leave: the status, what is printed, the files of the shelf,
-- and what is left of the input.
use Rattle.std.specs.Prelude.{◌≡◌, ℕ, List, Option, Some, codes}
use Rattle.command_words.specs.Command.{Asks, Command, IsNoCommand, big, compile, dump, run}
use Rattle.module_outcome.specs.Big.{Summarizes}
use Rattle.module_outcome.specs.Lines.{line}
use Rattle.module_outcome.specs.Outcome.{Compiles, Outcome as CompileOutcome}
use Rattle.module_outcome.specs.declared.answer.Answer.{Answer as CompileAnswer}
use Rattle.m2_io.specs.Files.{Files}
use Rattle.m2_io.specs.Written.{WritesPart, with_bytes}
use Rattle.object_commands.specs.Dumps.{Dumps}
use Rattle.object_commands.specs.Outcomes.{Outcome as ObjectOutcome}
use Rattle.object_commands.specs.Runs.{Runs}
use Rattle.object_commands.specs.declared.answer.Answer.{Answer}
use Rattle.m2c_top.specs.Statuses.{status_after, status_compiled, status_number}
use Rattle.m2c_top.specs.declared.status.Status.{Status}
use Rattle.m2c_top.specs.declared.status.Status.TheVariants.{NoCommand}

pub record Effect : Type 0 where
  pub status : Status
  pub printed : List ℕ
  pub files : Files
  pub left : Option (List ℕ)

abbrev pub usage : List ℕ
usage = line (codes
    "usage: m2c compile NAME [--workers N] | run NAME [--steps N] [--cells N] | dump NAME | big N [--workers N]")

-- What a command leaves over these files, where this is left of the input.
pub data Does (files : Files) (left : Option (List ℕ)) : Command → Effect → Type 0 where
  compiles : (name : List ℕ) (workers : ℕ) (outcome : CompileOutcome) (after : Files)
      → Compiles (Some files) name outcome → outcome.files ≡ Some after
      → Does files left (compile name workers)
      (record { status = status_compiled outcome.answer; printed = outcome.printed; files = after; left = left })
  runs : (name : List ℕ) (steps cells : ℕ) (input : List ℕ) (outcome : ObjectOutcome) → left ≡ Some input
      → Runs (Some files) name steps cells input outcome
      → Does files left (run name steps cells) (record
      { status = status_after outcome.answer; printed = outcome.printed; files = files; left = Some outcome.left })
  dumps : (name printed : List ℕ) (answer : Answer) → Dumps (Some files) name printed answer
      → Does files left (dump name)
      (record { status = status_after answer; printed = printed; files = files; left = left })
  counts_big : (procedures workers : ℕ) (answer : CompileAnswer) (printed : List ℕ)
      → Summarizes (Some files) procedures answer printed
      → Does files left (big procedures workers)
      (record { status = status_compiled answer; printed = printed; files = files; left = left })

-- What the words leave.
pub data Gives (words : List (List ℕ)) (files : Files) (left : Option (List ℕ)) : Effect → Type 0 where
  no_command : IsNoCommand words
      → Gives words files left (record { status = NoCommand; printed = usage; files = files; left = left })
  commanded : (command : Command) (effect : Effect) → Asks words command → Does files left command effect
      → Gives words files left effect

-- the source tells its input, where the command reads it
abbrev pub IsTold : Option (List ℕ) → Command → Type 0
IsTold left (run name steps cells) = (input : List ℕ) × (left ≡ Some input)
IsTold left _ = Unit {0}

-- the same of the command of the words
abbrev pub HasInput : List (List ℕ) → Option (List ℕ) → Type 0
HasInput words left = (command : Command) → Asks words command → IsTold left command

-- what is left: the status, the files, what was printed behind what was written before, and what is left of the input
pub record Leaves (given : Effect → Type 0) (status : ℕ) (files : Option Files)
    (old new left : Option (List ℕ)) : Type 0 where
  pub effect : Effect
  pub is_given : given effect
  pub status_is : status ≡ status_number effect.status
  pub files_are : files ≡ Some effect.files
  pub printed_is : new ≡ with_bytes old effect.printed
  pub left_is : left ≡ effect.left

-- a front of what the definition prints
abbrev pub PrintsPart : (Effect → Type 0) → Option (List ℕ) → Option (List ℕ) → Type 0
PrintsPart given old new = (effect : Effect) → given effect → WritesPart old effect.printed new

-- ** Of what words ask

-- the words ask to compile a module of which this holds
abbrev pub AsksToCompile : List (List ℕ) → (List ℕ → Type 0) → Type 0
AsksToCompile words P = (name : List ℕ) × (workers : ℕ) × Asks words (compile name workers) × P name

-- this holds of the module that the words ask to compile, if they do
abbrev pub ToCompile : List (List ℕ) → (List ℕ → Type 0) → Type 0
ToCompile words P = (name : List ℕ) (workers : ℕ) → Asks words (compile name workers) → P name

abbrev pub AsksToRun : List (List ℕ) → Type 0
AsksToRun words = (name : List ℕ) × (steps : ℕ) × (cells : ℕ) × Asks words (run name steps cells)

-- ** The same of a command

-- it compiles a module of which this holds
abbrev pub IsToCompile : Command → (List ℕ → Type 0) → Type 0
IsToCompile (compile name workers) P = P name
IsToCompile _ P = ⊥

-- this holds of the module that it compiles, if it does
abbrev pub OfCompiled : Command → (List ℕ → Type 0) → Type 0
OfCompiled (compile name workers) P = P name
OfCompiled _ P = Unit {0}

abbrev pub IsToRun : Command → Type 0
IsToRun (run name steps cells) = Unit {0}
IsToRun _ = ⊥
