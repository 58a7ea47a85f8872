-- Jobs that count down.
use Rattle.std.specs.Prelude.{◌≡◌, ℕ, ◌==◌, Bool, true}
use Rattle.std.proofs.Common.{◌∙◌, refl, sym}
use Rattle.relay_tests.specs.declared.countdown.Countdown.{Countdown}

abbrev pub number_of : Countdown → ℕ
number_of job = job.number

abbrev pub is_over : Countdown → Bool
is_over job = job.left == 0

-- all smaller ones are done, as it knows
abbrev pub IsTold : Countdown → Type 0
IsTold job = job.told ≡ true

-- the first job knows that there are none before it
abbrev pub CanBeCounted : Countdown → Type 0
CanBeCounted job = job.number ≡ 1 → IsTold job

-- what a turn leaves of a job
pub record GoesOn (job later : Countdown) : Type 0 where
  pub number : later.number ≡ job.number
  pub told : IsTold job → IsTold later

-- ** Laws

pub goes_as_it_is : (job : Countdown) → GoesOn job job
goes_as_it_is job = record { number = refl; told = λ t. t }

pub goes_on : (job later latest : Countdown) → GoesOn job later → GoesOn later latest → GoesOn job latest
goes_on job later latest a b = record { number = b.number ∙ a.number; told = λ t. b.told (a.told t) }

pub keeps_number : (job later : Countdown) → GoesOn job later → later.number ≡ job.number
keeps_number job later a = a.number

pub counts_on : (job later : Countdown) → CanBeCounted job → GoesOn job later → CanBeCounted later
counts_on job later can a first = a.told (can (sym a.number ∙ first))

pub stays_told : (job later : Countdown) → IsTold job → GoesOn job later → IsTold later
stays_told job later told a = a.told told

pub first_is_told : (job : Countdown) → CanBeCounted job → job.number ≡ 1 → IsTold job
first_is_told job can first = can first
