-- What a command over objects leaves.
use Rattle.std.specs.Prelude.{◌≡◌, ℕ, List, Option, Some, drop}
use Rattle.m2_io.specs.Written.{with_bytes, WritesPart}
use Rattle.object_text.specs.declared.fault.PrintFault.TheVariants as prints
use Rattle.object_text.specs.declared.fault.PrintFault.{PrintFault}
use Rattle.object_commands.specs.declared.answer.Answer.{Answer}
use Rattle.object_commands.specs.declared.answer.Stop.TheVariants as stops
use Rattle.object_commands.specs.declared.answer.Stop.{Stop}

-- the answer, what is printed, and what is left of the input
pub record Outcome : Type 0 where
  pub answer : Answer
  pub printed : List ℕ
  pub left : List ℕ

-- what is left, behind what was written before
pub record Leaves (given : Outcome → Type 0) (answer : Answer) (old new left : Option (List ℕ)) : Type 0 where
  pub outcome : Outcome
  pub is_given : given outcome
  pub answer_is : answer ≡ outcome.answer
  pub printed_is : new ≡ with_bytes old outcome.printed
  pub left_is : left ≡ Some outcome.left

-- the same of a command that reads no input
pub record Prints (given : List ℕ → Answer → Type 0) (answer : Answer) (old new : Option (List ℕ)) : Type 0 where
  pub printed : List ℕ
  pub is_given : given printed answer
  pub printed_is : new ≡ with_bytes old printed

-- a front of what the definition prints
abbrev pub PrintsPart : (List ℕ → Answer → Type 0) → Option (List ℕ) → Option (List ℕ) → Type 0
PrintsPart given old new = (printed : List ℕ) (answer : Answer) → given printed answer → WritesPart old printed new

abbrev pub LeavesPart : (Outcome → Type 0) → Option (List ℕ) → Option (List ℕ) → Type 0
LeavesPart given old new = (outcome : Outcome) → given outcome → WritesPart old outcome.printed new

-- some first bytes of the input were read, and the rest of it is left
abbrev pub ReadsPart : (input : List ℕ) → (left : Option (List ℕ)) → Type 0
ReadsPart input left = (taken : ℕ) × (left ≡ Some (drop taken input))

-- why an object isn't printed
abbrev pub stop_of_print : PrintFault → Stop
stop_of_print prints.Write = stops.Write
stop_of_print prints.Memory = stops.Memory
