-- What clauses say of a relay and its hands.
use Rattle.std.specs.Prelude.{◌≡◌, ℕ, ◌<◌, Bool, true, List, [], ◌++◌, All, Option, None, length, map, sum_by}
use Rattle.std.specs.Prelude.{slice_index_or, vec_capacity}
use Rattle.crossbeam_queue.specs.Passes.{view, IsPassOf}
use Rattle.relay.specs.declared.hand.Hand.{Hand}
use Rattle.relay.specs.declared.hand.Relay.{Relay}
use Rattle.relay.specs.Places.{Carries, numbers_to}

module _ {A : Type 0} where
  -- the jobs with which the relay was opened
  abbrev pub jobs_of : Relay A → List A
  jobs_of r = r.jobs.value.items

  abbrev pub many : Relay A → ℕ
  many r = length (jobs_of r)

  -- the number of the job in hand, if any
  abbrev pub held : Hand A → Option ℕ
  held h = h.held

  abbrev pub kept : Hand A → List A
  kept h = h.kept.items

  -- a hand's part of the right to close
  abbrev pub part : Hand A → ℕ
  part h = (view h.pass).parts

  -- it holds and keeps none
  abbrev pub IsEmpty : Hand A → Type 0
  IsEmpty h = (held h ≡ None) × (kept h ≡ [])

module _ {A : Type 0} (number : A → ℕ) (stays : A → A → Type 0) where
  pub record IsHandOf (r : Relay A) (h : Hand A) : Type 0 where
    pub pass : IsPassOf r.queue h.pass
    pub some_part : 0 < part h
    pub jobs : (view h.pass).jobs ≡ jobs_of r
    pub carries : Carries number stays (view h.pass) (held h) (kept h) (vec_capacity h.kept)

  -- it is a hand of the relay that holds none
  abbrev pub Rests : Relay A → Hand A → Type 0
  Rests r h = IsHandOf r h × (held h ≡ None)

  -- these are all hands of the relay, whose jobs are numbered 1, 2 and so on
  pub record AllHands (r : Relay A) (hands : List (Hand A)) : Type 0 where
    pub order : map number (jobs_of r) ≡ numbers_to (many r)
    pub each : All (IsHandOf r) hands
    pub whole : sum_by part hands ≡ 1024

-- each of these is the job at its place there, later
pub record AreLater {A : Type 0} (stays : A → A → Type 0) (jobs later : List A) : Type 0 where
  pub many : length later ≡ length jobs
  pub each : (k : ℕ) (d : A) → k < length jobs → stays (slice_index_or jobs k d) (slice_index_or later k d)

-- there are more of them than before, and those are done
pub record KeepsDone {A : Type 0} (done : A → Bool) (before after : List A) : Type 0 where
  pub more : List A
  pub is : after ≡ before ++ more
  pub all_done : All (λ job. done job ≡ true) more
