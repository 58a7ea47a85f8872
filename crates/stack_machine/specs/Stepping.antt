-- What the code's step and its run leave.
use Rattle.std.specs.Prelude.{◌≡◌, ◌<◌, ◌≤◌, ℕ, List, [], drop, Option, Some, None, IfSome, Bool, true, false}
use Rattle.m2_io.specs.Written.{with_bytes, WritesPart}
use Rattle.m2_io.specs.Causes.{Rose}
use Rattle.stack_machine.specs.declared.op.Op.{Op}
use Rattle.stack_machine.specs.declared.op.Service.{Service}
use Rattle.stack_machine.specs.declared.next.Next.{Next as CodeNext}
use Rattle.stack_machine.specs.declared.run.Failure.{Failure}
use Rattle.stack_machine.specs.declared.run.Failure.TheVariants as failures
use Rattle.stack_machine.specs.State.{State, Program}
use Rattle.stack_machine.specs.InOut.{Got, printed, got_by, params_of}
use Rattle.stack_machine.specs.Step.{does, served, step, takes}
use Rattle.stack_machine.specs.Able.{Comes}
use Rattle.stack_machine.specs.declared.run.End.{End}
use Rattle.stack_machine.specs.declared.run.End.TheVariants as ends
use Rattle.stack_machine.specs.declared.next.Next.TheVariants as code_next
use Rattle.stack_machine.specs.declared.trap.Trap.TheVariants as traps
use Rattle.stack_machine.specs.declared.trap.Trap.{Trap}
use Rattle.stack_machine.specs.Numbers.{code_of}
use Rattle.stack_machine.specs.Runs.{asked, prints_by, gets_by, AtPlace}

-- an operation is a call of this procedure of InOut, of so many operands
pub record Serves (p : Program) (op : Op) (s : State) (v : Service) (n : ℕ) : Type 0 where
  pub does_so : (got : Got) → does p got op s ≡ served v n got s
  pub params : params_of v ≤ n
  pub takes_so : n ≡ takes op

-- what a procedure of InOut leaves and reads, where the source tells what it has left
pub record ServedSo (v : Service) (n : ℕ) (s : State) (next : CodeNext) (new : State) (input : List ℕ)
    (left : Option (List ℕ)) : Type 0 where
  pub comes : Comes next (served v n (got_by v s.kept input) s) s new
  pub left_is : left ≡ Some (got_by v s.kept input).rest

-- the same with what it prints
pub record HasServed (v : Service) (n : ℕ) (s : State) (next : CodeNext) (new : State) (input : List ℕ)
    (w0 w left : Option (List ℕ)) : Type 0 where
  pub comes : Comes next (served v n (got_by v s.kept input) s) s new
  pub written : w ≡ with_bytes w0 (printed v s.cells s.operands)
  pub left_is : left ≡ Some (got_by v s.kept input).rest

-- the same of a step
pub record Stepped (p : Program) (s : State) (next : CodeNext) (new : State) (input : List ℕ)
    (w0 w left : Option (List ℕ)) : Type 0 where
  pub comes : Comes next (step p (gets_by (asked p s) s input) s) s new
  pub written : w ≡ with_bytes w0 (prints_by (asked p s) s)
  pub left_is : left ≡ Some (gets_by (asked p s) s input).rest

-- where it failed, some first bytes were written, and some were taken
pub record Broken (bytes input : List ℕ) (w0 w left : Option (List ℕ)) : Type 0 where
  pub part : WritesPart w0 bytes w
  pub taken : ℕ
  pub left_is : left ≡ Some (drop taken input)

-- each failure comes only with a risen count of faults
abbrev pub FailedWith : Failure → (p0 p1 k0 k1 : ℕ) → Type 0
FailedWith failures.Read p0 p1 k0 k1 = Rose k0 k1
FailedWith failures.Write p0 p1 k0 k1 = Rose p0 p1

-- an end by a trap at a place
abbrev pub IsTrapped : End → Program → Trap → (at : ℕ) → Type 0
IsTrapped ends.StepsSpent p c at = ⊥
IsTrapped ends.Halted p c at = ⊥
IsTrapped (ends.Trapped code m procedure offset) p c at =
    (code ≡ code_of c) × AtPlace (record { «module» = m; procedure = procedure; offset = offset }) p at
IsTrapped ends.ReadFailed p c at = ⊥
IsTrapped ends.WriteFailed p c at = ⊥

-- the place of a body that finds no room is one of so many
abbrev pub IsFramed : CodeNext → ℕ → Type 0
IsFramed code_next.Goes n = Unit {0}
IsFramed code_next.Halts n = Unit {0}
IsFramed (code_next.Traps c) n = Unit {0}
IsFramed (code_next.NoFrame at) n = at < n

abbrev pub is_going : CodeNext → Bool
is_going code_next.Goes = true
is_going code_next.Halts = false
is_going (code_next.Traps c) = false
is_going (code_next.NoFrame at) = false

abbrev pub failed_end : Failure → End
failed_end failures.Read = ends.ReadFailed
failed_end failures.Write = ends.WriteFailed

-- the end by a step at a place
abbrev pub IsEnded : End → Program → (at : ℕ) → CodeNext → Type 0
IsEnded end p at code_next.Goes = Unit {0}
IsEnded end p at code_next.Halts = end ≡ ends.Halted
IsEnded end p at (code_next.Traps c) = IsTrapped end p c at
IsEnded end p at (code_next.NoFrame first) = IsTrapped end p traps.Memory first
