-- How a turn ends, and how jobs are ended one after another.
use Rattle.std.specs.Prelude.{◌≡◌, ℕ, ◌<◌, Bool, true, List, slice_index_or}
use Rattle.relay.specs.declared.job.Turned.{Turned}
use Rattle.relay.specs.declared.job.Turned.TheVariants.{Further, Waiting, NoMemory}

-- the turn leaves the job done, unless memory ran out
abbrev pub EndsIt : Bool → Turned → Type 0
EndsIt done Further = done ≡ true
EndsIt done Waiting = done ≡ true
EndsIt done NoMemory = Unit {0}

-- the first so many jobs are done, and know all that they could wait for
pub record AreOver {A : Type 0} (ready : A → Type 0) (done : A → Bool) (many : ℕ) (jobs : List A) : Type 0 where
  pub are_ready : (k : ℕ) (d : A) → k < many → ready (slice_index_or jobs k d)
  pub are_done : (k : ℕ) (d : A) → k < many → done (slice_index_or jobs k d) ≡ true
