-- Machines.
use Rattle.std.specs.Prelude.{◌≡◌, ◌<◌, ℕ, List, length, Option, Some, None, slice_get}
use Rattle.object_file.specs.Contents.{Contents}
use Rattle.stack_machine.specs.declared.code.Code.{Code}
use Rattle.stack_machine.specs.declared.core_state.Core.{Core}
use Rattle.stack_machine.specs.declared.run.End.{End}
use Rattle.stack_machine.specs.declared.run.End.TheVariants as ends
use Rattle.stack_machine.specs.declared.trap.Trap.TheVariants as traps
use Rattle.stack_machine.specs.State.{State, Program, state_of}
use Rattle.stack_machine.specs.Step.{Next, Goes, Halts, Traps, NoFrame, Stuck}
use Rattle.stack_machine.specs.declared.code.Routine.{Routine}
use Rattle.stack_machine.specs.Able.{HasRoom}
use Rattle.stack_machine.specs.Ready.{Ready, IsSmall}
use Rattle.stack_machine.specs.Runs.{Ends, AtPlace}
use Rattle.stack_machine.specs.Stepping.{IsTrapped}

-- The objects of a machine's program, their code, and where it stands: in a state,
-- or before a body that finds no room.
pub record Machinery : Type 0 where
  pub objects : List Contents
  pub code : Program
  pub now : Next

-- where a machine stands, with the place of the first body where that has no room
abbrev pub now_of : (full : Option ℕ) → Core → Next
now_of None core = Goes (state_of core)
now_of (Some at) core = NoFrame at

-- it can go on, or that place is one of the program's
abbrev pub Stands : (full : Option ℕ) → Code → Core → Type 0
Stands None code core = Ready code core
Stands (Some at) code core = at < length code.origins.items

-- How a run of at most n steps ended, from where a machine stood with this input. A body that finds no room traps, and
-- nothing is printed or read.
abbrev pub EndsFrom : End → Program → (n : ℕ) → (first new : Next) → (input : List ℕ) → (w0 w left : Option (List ℕ))
    → Type 0
EndsFrom end p n (Goes s) new input w0 w left = (s' : State) × (new ≡ Goes s') × Ends end p n s s' input w0 w left
EndsFrom end p n (NoFrame at) new input w0 w left =
    (new ≡ NoFrame at) × IsTrapped end p traps.Memory at × (w ≡ w0) × (left ≡ Some input)
EndsFrom end p n Halts new input w0 w left = ⊥
EndsFrom end p n (Traps c) new input w0 w left = ⊥
EndsFrom end p n Stuck new input w0 w left = ⊥

-- a trap is in the code of one of so many objects
abbrev pub TrapsWithin : End → (n : ℕ) → Type 0
TrapsWithin ends.StepsSpent n = Unit {0}
TrapsWithin ends.Halted n = Unit {0}
TrapsWithin (ends.Trapped code m procedure offset) n = m < n
TrapsWithin ends.ReadFailed n = Unit {0}
TrapsWithin ends.WriteFailed n = Unit {0}

-- there is a first body, and room for its state
pub record IsFirst (code : Code) (c : Core) : Type 0 where
  pub body : ℕ
  pub body_is : slice_get code.bodies.items 0 ≡ Some body
  pub routine : Routine
  pub routine_is : slice_get code.routines.items body ≡ Some routine
  pub small : IsSmall routine
  pub room : HasRoom c

-- a trap is at a place of the program
abbrev pub IsPlaced : End → Program → Type 0
IsPlaced ends.StepsSpent p = Unit {0}
IsPlaced ends.Halted p = Unit {0}
IsPlaced (ends.Trapped code m procedure offset) p =
    (at : ℕ) × AtPlace (record { «module» = m; procedure = procedure; offset = offset }) p at
IsPlaced ends.ReadFailed p = Unit {0}
IsPlaced ends.WriteFailed p = Unit {0}
