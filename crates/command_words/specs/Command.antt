-- What the words of a command line ask for: a verb, and behind it what it is about and the verb's options,
-- in any order.
use Rattle.std.specs.Prelude.{◌≡◌, ℕ, ◌<◌, ◌≤◌, IsTrue, List, ◌∷◌, Option, Some, None, codes, unwrap_or}
use Rattle.m2_base.specs.declared.limits.TheConstants.{MOST_PROCEDURES}
use Rattle.command_words.specs.Names.{is_name}
use Rattle.command_words.specs.Operands.{procedures_in}
use Rattle.command_words.specs.Parts.{Given, Gives}
use Rattle.command_words.specs.Settings.{standard}
use Rattle.command_words.specs.declared.command.Command.TheVariants as held
use Rattle.command_words.specs.declared.command.Command.{Command as HeldCommand}
use Rattle.command_words.specs.declared.setting.Setting.TheVariants.{Workers, Steps, Cells}

-- compiling a module with so many workers, running one in so many steps at most and with so many cells, dumping one,
-- and counting what the big module of so many procedures compiles to with so many workers
pub data Command : Type 0 where
  compile : (name : List ℕ) (workers : ℕ) → Command
  run : (name : List ℕ) (steps cells : ℕ) → Command
  dump : (name : List ℕ) → Command
  big : (procedures workers : ℕ) → Command

-- the command of a verb with what is given behind it
pub data Makes : List ℕ → Given → Command → Type 0 where
  to_compile : (name : List ℕ) (workers : Option ℕ) → IsTrue (is_name name)
      → Makes (codes "compile") (record { operand = Some name; workers = workers; steps = None; cells = None })
      (compile name (unwrap_or workers (standard Workers)))
  to_run : (name : List ℕ) (steps cells : Option ℕ) → IsTrue (is_name name)
      → Makes (codes "run") (record { operand = Some name; workers = None; steps = steps; cells = cells })
      (run name (unwrap_or steps (standard Steps)) (unwrap_or cells (standard Cells)))
  to_dump : (name : List ℕ) → IsTrue (is_name name)
      → Makes (codes "dump") (record { operand = Some name; workers = None; steps = None; cells = None }) (dump name)
  to_big : (word : List ℕ) (procedures : ℕ) (workers : Option ℕ) → procedures_in word ≡ Some procedures
      → Makes (codes "big") (record { operand = Some word; workers = workers; steps = None; cells = None })
      (big procedures (unwrap_or workers (standard Workers)))

-- the words ask for it
pub data Asks : List (List ℕ) → Command → Type 0 where
  behind_verb : (verb : List ℕ) (words : List (List ℕ)) (given : Given) (command : Command) → Gives words given
      → Makes verb given command → Asks (verb ∷ words) command

-- the words are no command
abbrev pub IsNoCommand : List (List ℕ) → Type 0
IsNoCommand words = (command : Command) → Asks words command → ⊥

-- the verb makes no command of what is given
abbrev pub MakesNone : List ℕ → Given → Type 0
MakesNone verb given = (command : Command) → Makes verb given command → ⊥

-- the command that the program holds
abbrev pub command_of : HeldCommand → Command
command_of (held.Compile name workers) = compile name.now workers
command_of (held.Run name steps cells) = run name.now steps cells
command_of (held.Dump name) = dump name.now
command_of (held.Big procedures workers) = big procedures workers

-- what holds of every command that can be asked for: its module has a name, 1 to 64 workers compile, a program has a
-- cell at least, and the big module 1 to 16384 procedures
abbrev pub IsSound : Command → Type 0
IsSound (compile name workers) = IsTrue (is_name name) × (0 < workers) × (workers ≤ 64)
IsSound (run name steps cells) = IsTrue (is_name name) × (0 < cells)
IsSound (dump name) = IsTrue (is_name name)
IsSound (big procedures workers) = (0 < procedures) × (procedures ≤ MOST_PROCEDURES) × (0 < workers) × (workers ≤ 64)
