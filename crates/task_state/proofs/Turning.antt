-- The work stops for the same reason, seen from an earlier state.
use Rattle.std.specs.Prelude.{Err}
use Rattle.m2_base.specs.States.{State, Turns}
use Rattle.m2_base.proofs.Kept.{Waits_turned}
use Rattle.task_state.specs.Steps.{Stops}
use Rattle.task_state.specs.declared.stops.Stop.{Stop}
use Rattle.task_state.specs.declared.stops.Stop.TheVariants.{NoMemory, Parked}

-- of two functions that answer something else
pub stop_later : (T U : Type 0) (a b c : State) (s : Stop) → Turns a b → Stops {T = T} b c (Err s) → Stops {T = U} a c (Err s)
stop_later T U a b c (Parked head) t h = Waits_turned t h
stop_later T U a b c NoMemory t h = tt
