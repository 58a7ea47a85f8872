-- What is said of the job of a stream: of its task, and of what its handle holds.
use Rattle.std.specs.Prelude.{◌≡◌, ℕ, ◌<◌, Bool, true, false}
use Rattle.std.proofs.Common.{◌∙◌, refl, ap, sym, subst}
use Rattle.m2_base.specs.States.{Setting, State, fills_of, texts_of}
use Rattle.m2_base.specs.Units.{UnitTexts}
use Rattle.relay.specs.declared.job.Turned.{Turned}
use Rattle.relay.specs.declared.job.Turned.TheVariants.{Further, NoMemory, Waiting}
use Rattle.task_state.specs.Progress.{IsAsFar}
use Rattle.task_state.specs.declared.task.Task.{Task}
use Rattle.task_state.specs.declared.task.Turn.{Turn}
use Rattle.task_state.specs.declared.task.Turn.TheVariants.{Done, Memory, Parked}

-- all scopes with smaller numbers were seen complete
abbrev pub SeesAll : State → Type 0
SeesAll st = (s : ℕ) → s < fills_of st → (st.seen s).complete ≡ true

-- Turns of it may be made: it is of the unit with these texts, and as far as its scope.
-- The first one has nothing to wait for.
pub record Fits (u : UnitTexts) (st : State) (t : Task) : Type 0 where
  pub texts : texts_of st ≡ u
  pub first : fills_of st ≡ 1 → SeesAll st
  pub far : IsAsFar st t

-- What a turn leaves of it, and what it is told: it fills the same scope of the same unit, what it has seen complete
-- stays so, and it stays as far as its scope.
pub record Stays (old : State) (before : Task) (new : State) (after : Task) : Type 0 where
  pub setting : new.frame.setting ≡ old.frame.setting
  pub seen : (s : ℕ) → (old.seen s).complete ≡ true → (new.seen s).complete ≡ true
  pub far : IsAsFar old before → IsAsFar new after

-- what becomes of a job in a turn that ends so, by whether it finished an item or a statement
abbrev pub becomes : Turn → (further : Bool) → Turned
becomes Done further = Further
becomes (Parked head) true = Further
becomes (Parked head) false = Waiting
becomes Memory further = NoMemory

-- ** Laws

pub same_stays : {st : State} {t : Task} → Stays st t st t
same_stays = record { setting = refl; seen = λ s done. done; far = λ f. f }

pub both_stay : {old mid new : State} {before between after : Task} → Stays old before mid between
    → Stays mid between new after → Stays old before new after
both_stay a b =
    record { setting = b.setting ∙ a.setting; seen = λ s done. b.seen s (a.seen s done); far = λ f. b.far (a.far f) }

pub fills_stays : {old new : State} {before after : Task} → Stays old before new after → fills_of new ≡ fills_of old
fills_stays a = ap (λ (g : Setting). g.fills) a.setting

pub sees_on : {old new : State} {before after : Task} → SeesAll old → Stays old before new after → SeesAll new
sees_on sees a s low = a.seen s (sees s (subst (λ (n : ℕ). s < n) (fills_stays a) low))

pub fits_on : {u : UnitTexts} {old new : State} {before after : Task} → Fits u old before → Stays old before new after
    → Fits u new after
fits_on fits a =
    record {
      texts = ap (λ (g : Setting). g.texts) a.setting ∙ fits.texts;
      first = λ e. sees_on (fits.first (sym (fills_stays a) ∙ e)) a;
      far = a.far fits.far;
    }

pub first_sees : {u : UnitTexts} {st : State} {t : Task} → Fits u st t → fills_of st ≡ 1 → SeesAll st
first_sees fits = fits.first
