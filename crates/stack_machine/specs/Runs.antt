-- A run: at most so many steps, with what they print and read.
use Rattle.std.specs.Prelude.{◌≡◌, ◌<◌, ℕ, zero, suc, List, [], ◌++◌, slice_get, drop, Option, Some, None}
use Rattle.m2_io.specs.Written.{with_bytes, WritesPart}
use Rattle.stack_machine.specs.declared.op.Service.{Service}
use Rattle.stack_machine.specs.declared.op.Op.{Op}
use Rattle.stack_machine.specs.declared.op.Op.TheVariants.{CallService, CallVar}
use Rattle.stack_machine.specs.declared.trap.Trap.{Trap}
use Rattle.stack_machine.specs.declared.trap.Trap.TheVariants as traps
use Rattle.stack_machine.specs.declared.code.Callee.{Callee}
use Rattle.stack_machine.specs.declared.code.Callee.TheVariants as callees
use Rattle.stack_machine.specs.declared.code.Origin.{Origin}
use Rattle.stack_machine.specs.declared.run.End.{End}
use Rattle.stack_machine.specs.declared.run.End.TheVariants as ends
use Rattle.stack_machine.specs.Numbers.{code_of}
use Rattle.stack_machine.specs.Operands.{top_of}
use Rattle.stack_machine.specs.State.{State, Program}
use Rattle.stack_machine.specs.InOut.{Got, printed, got_by}
use Rattle.stack_machine.specs.Step.{Next, Goes, Halts, Traps, NoFrame, Stuck, callee_of, step}

-- ---- what a step prints and reads

abbrev pub service_in : Option Callee → Option Service
service_in None = None
service_in (Some (callees.Routine k)) = None
service_in (Some (callees.Service v)) = Some v

-- the procedure of InOut that an operation calls
abbrev pub asked_by : Program → Option Op → State → Option Service
asked_by p None s = None
asked_by p (Some (CallService v)) s = Some v
asked_by p (Some (CallVar n r)) s = service_in (callee_of p (top_of n s.operands) n r)
asked_by p (Some op) s = None

unfoldable pub asked : Program → State → Option Service
asked p s = asked_by p (slice_get p.ops s.at) s

abbrev pub prints_by : Option Service → State → List ℕ
prints_by None s = []
prints_by (Some v) s = printed v s.cells s.operands

abbrev pub gets_by : Option Service → State → (input : List ℕ) → Got
gets_by None s input = record { value = None; kept = s.kept; rest = input }
gets_by (Some v) s input = got_by v s.kept input

-- ---- runs

-- what was printed, and the rest of the input
pub record Traffic : Type 0 where
  pub out : List ℕ
  pub input : List ℕ

-- what some steps come to
pub data Run : Type 0 where
  Unfinished : State → Traffic → Run
  Halted : State → Traffic → Run
  Trapped : Trap → (at : ℕ) → State → Traffic → Run
  Lost : Run

-- after a step from the old state with this traffic
abbrev pub after : Next → (old : State) → Traffic → (State → Run) → Run
after (Goes s) old t go = go s
after Halts old t go = Halted old t
after (Traps c) old t go = Trapped c old.at old t
after (NoFrame at) old t go = Trapped traps.Memory at old t
after Stuck old t go = Lost

abbrev pub got : Program → State → Traffic → Got
got p s t = gets_by (asked p s) s t.input

-- the traffic with that of one step more
abbrev pub passed : Program → State → Traffic → Traffic
passed p s t = record { out = t.out ++ prints_by (asked p s) s; input = (got p s t).rest }

-- at most n steps
unfoldable pub run_of : Program → (n : ℕ) → State → Traffic → Run
run_of p zero s t = Unfinished s t
run_of p (suc n) s t = after (step p (got p s t) s) s (passed p s t) (λ s'. run_of p n s' (passed p s t))

-- ---- how a run ended

abbrev pub AtPlace : (place : Origin) → Program → (at : ℕ) → Type 0
AtPlace place p at = slice_get p.origins at ≡ Some place

-- The steps so far, what they printed, and what is left of the input.
pub record Came (p : Program) (n : ℕ) (first : State) (input : List ℕ) (w0 w left : Option (List ℕ))
    (is : Run → Traffic → Type 0) : Type 0 where
  pub t : Traffic
  pub run : is (run_of p n first (record { out = []; input = input })) t
  pub printed : w ≡ with_bytes w0 t.out
  pub left_is : left ≡ Some t.input

-- Fewer steps came to this state. Of what the next step prints some first bytes may have been written, and of what it
-- reads some may have been taken.
pub record Stopped (p : Program) (n : ℕ) (first new : State) (input : List ℕ)
    (w0 w left : Option (List ℕ)) : Type 0 where
  pub steps : ℕ
  pub fewer : steps < n
  pub t : Traffic
  pub run : run_of p steps first (record { out = []; input = input }) ≡ Unfinished new t
  pub printed : WritesPart (with_bytes w0 t.out) (prints_by (asked p new) new) w
  pub taken : ℕ
  pub left_is : left ≡ Some (drop taken t.input)

-- how a run of at most n steps ended, from a first state with this input
abbrev pub Ends : End → Program → (n : ℕ) → (first new : State) → (input : List ℕ) → (w0 w left : Option (List ℕ))
    → Type 0
Ends ends.StepsSpent p n first new input w0 w left = Came p n first input w0 w left (λ r t. r ≡ Unfinished new t)
Ends ends.Halted p n first new input w0 w left = Came p n first input w0 w left (λ r t. r ≡ Halted new t)
Ends (ends.Trapped code m procedure offset) p n first new input w0 w left =
    Came p n first input w0 w left (λ r t. (c : Trap) × (at : ℕ) × (r ≡ Trapped c at new t)
    × (code ≡ code_of c) × AtPlace (record { «module» = m; procedure = procedure; offset = offset }) p at)
Ends ends.ReadFailed p n first new input w0 w left = Stopped p n first new input w0 w left
Ends ends.WriteFailed p n first new input w0 w left = Stopped p n first new input w0 w left
