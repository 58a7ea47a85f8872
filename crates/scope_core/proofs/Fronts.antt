-- What is entered is the front of the finished rows.
use Rattle.std.proofs.Common.{◌≡◌, ℕ, ◌-◌, false, List, [], ◌++◌, length, zero, suc, replicate, refl, sym, ◌∙◌, ap, subst}
use Rattle.std.proofs.lemmas.Bool.{false≢true}
use Rattle.std.proofs.lemmas.List.{append-nil}
use Rattle.m2_base.specs.Finished.{WhereFinished}
use Rattle.m2_base.specs.Scopes.{CanEnter, Entered, CanComplete, Completed}
use Rattle.m2_base.specs.States.{Frame, Keeps, Look, State, fills_of}
use Rattle.m2_base.specs.Tables.{Table, no_rows, rows_at, table_at}
use Rattle.m2_base.specs.Units.{UnitTexts}
use Rattle.m2_base.specs.declared.rows.Row.{Row}
use Rattle.scope_core.specs.Fronts.{IsFrontOf, ShowsFront}
use Rattle.scope_core.specs.PlainScopes.{started, state_of}

-- ** The start

empty_at : (m : ℕ) → table_at (replicate m no_rows) 0 ≡ no_rows
empty_at zero = refl
empty_at (suc m) = refl

pub started_empty : (texts : UnitTexts) (sizes : List ℕ) → (state_of (started texts sizes)).frame.entered ≡ []
started_empty texts sizes = ap (λ (t : Table). t.rows) (empty_at (length sizes - 1))

pub started_open : (texts : UnitTexts) (sizes : List ℕ) → (state_of (started texts sizes)).frame.closed ≡ false
started_open texts sizes = ap (λ (t : Table). t.complete) (empty_at (length sizes - 1))

pub started_front : (texts : UnitTexts) (sizes : List ℕ) → ShowsFront (state_of (started texts sizes))
started_front texts sizes tables is =
    let rows = rows_at tables 1 in
    record {
      entered = record { rest = rows; joined = ap (λ (e : List Row). e ++ rows) (started_empty texts sizes) };
      whole = λ done. absurd (false≢true (sym (started_open texts sizes) ∙ done));
    }

-- ** The calls

-- of a frame, by its texts and its scope
abbrev FrontBy : Frame → Type 0
FrontBy f = WhereFinished f.setting.texts (λ tables. IsFrontOf f (rows_at tables f.setting.fills))

pub searched_front : (old new : State) (looks : List Look) → Keeps old new looks → ShowsFront old → ShowsFront new
searched_front old new looks keeps front = subst FrontBy (sym keeps.frame) front

pub entered_front : (old new : State) (rows : List Row) → CanEnter old rows → Entered old new rows → ShowsFront new
entered_front old new rows can is =
    subst FrontBy (sym is.frame) (λ tables finished.
    record { entered = can.next tables finished; whole = λ done. absurd (false≢true (sym can.open_yet ∙ done)) })

pub completed_front : (old new : State) → CanComplete old → Completed old new → ShowsFront new
completed_front old new can is =
    subst FrontBy (sym is.frame) (λ tables finished.
    let all : old.frame.entered ≡ rows_at tables (fills_of old) = can.all tables finished in
    record { entered = record { rest = []; joined = append-nil old.frame.entered ∙ all }; whole = λ done. all })
