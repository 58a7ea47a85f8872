-- The calls of an object in memory. They are numbered from 1, and those with given numbers fail.
use Rattle.std.specs.Prelude.{◌+◌, ◌-◌, ◌^◌, ℕ, min, Contains, Vec}
use Rattle.std.specs.Global.{Global}
use Rattle.m2_io.specs.declared.calls.Calls.{Calls}

-- No call was made yet, and those with these numbers will fail.
abbrev pub calls_that_fail_at : Vec ℕ Global → Calls
calls_that_fail_at fails = record { fails = fails; made = 0 }

-- The number of the next call. At its last value it stands still.
abbrev pub next_call : Calls → ℕ
next_call calls = min (calls.made + 1) (2 ^ 32 - 1)

-- The next call is one of those that fail.
abbrev pub NextFails : Calls → Type 0
NextFails calls = Contains calls.fails.items (next_call calls)

-- One call more was made.
abbrev pub after_call : Calls → Calls
after_call calls = record calls { made = next_call calls }
