-- A turn of a job, and what a job is told.
use Rattle.std.specs.Prelude.{◌≡◌, ◌≢◌, ◌⊎◌, refl, ℕ, ◌+◌, Bool, true, false, if◌then◌else◌, ltb}
use Rattle.std.proofs.Common.{ap, subst, sym, ◌∙◌, inl, inr, arith}
use Rattle.std.proofs.lemmas.Bool.{cases_eq, false≢true}
use Rattle.m2_base.specs.States.{Frame, IsLater, Mark, State, Turns, Waits, fills_of, mark_of}
use Rattle.m2_base.specs.declared.replies.Head.{Head}
use Rattle.dky_search.specs.SeatScopes.{IsTold, later_mark}
use Rattle.relay.specs.Ends.{EndsIt}
use Rattle.task_state.specs.Progress.{Ends, IsAsFar, is_over}
use Rattle.task_state.specs.declared.task.Task.{Task}
use Rattle.task_state.specs.declared.task.Turn.{Turn}
use Rattle.task_state.specs.declared.task.Turn.TheVariants.{Done, Memory, Parked}
use Rattle.task_state.proofs.Finished.{over_closed}
use Rattle.unit_tasks.proofs.Frames.{far_beside, state_beside}
use Rattle.unit_workers.specs.Jobs.{SeesAll, Stays, becomes}

later_complete : (m n : Mark) → IsLater m n → m.complete ≡ true → n.complete ≡ true
later_complete m n l done = ap (λ (x : Mark). x.complete) (l.complete done) ∙ done

-- what a turn leaves of a job
pub turn_stays : (old new : State) (before after : Task) → Turns old new → IsAsFar new after → Stays old before new after
turn_stays old new before after turns far =
    record { setting = turns.setting; seen = λ s done. later_complete (old.seen s) (new.seen s) (turns.seen s) done; far = λ f. far }

-- ** No turn parks where all smaller scopes were seen complete

never_waits : (old new : State) (head : Head) → SeesAll old → Waits old new head → ⊥
never_waits old new head sees waits =
    let done = sees head.scope waits.smaller in
    let complete : head.complete ≡ true = later_complete (old.seen head.scope) (mark_of head) waits.from done in
    false≢true (sym waits.incomplete ∙ complete)

pub ends_it : (old new : State) (t : Task) (turn : Turn) (further : Bool) → Ends old new t turn → SeesAll old → EndsIt (is_over t) (becomes turn further)
ends_it old new t Done further ends sees = ends
ends_it old new t (Parked head) further ends sees = absurd (never_waits old new head sees ends)
ends_it old new t Memory further ends sees = tt

-- ** What a job is told

told_first : (m n : Mark) → m.complete ≡ true → (later_mark m n).complete ≡ true
told_first m n done = subst (λ (b : Bool). (if b then m else if n.complete then n else if ltb m.count n.count then n else m).complete ≡ true) (sym done) done

told_second : (m n : Mark) → n.complete ≡ true → (later_mark m n).complete ≡ true
told_second m n done = go m.complete refl
  where
    rest : Mark
    rest = if n.complete then n else if ltb m.count n.count then n else m

    go : (b : Bool) → b ≡ m.complete → (later_mark m n).complete ≡ true
    go true e = told_first m n (sym e)
    go false e =
        subst (λ (b : Bool). (if b then m else rest).complete ≡ true) e
        (subst (λ (b : Bool). (if b then n else if ltb m.count n.count then n else m).complete ≡ true) (sym done) done)

-- how far a task is doesn't depend on what was seen of other scopes
far_told : (from old new : State) (t : Task) → IsTold from old new → IsAsFar old t → IsAsFar new t
far_told from old new t told far =
    let same : state_beside old.frame.setting.others new.seen old ≡ new = λ i. record { frame = sym told.frame i; seen = new.seen; looks = sym told.looks i } in
    subst (λ (st : State). IsAsFar st t) same (far_beside old.frame.setting.others new.seen old t far)

seen_told : (from old new : State) → IsTold from old new → (s : ℕ) → (old.seen s).complete ≡ true → (new.seen s).complete ≡ true
seen_told from old new told s done = go (cases_eq s (fills_of old))
  where
    go : (s ≡ fills_of old) ⊎ (s ≡ fills_of old → ⊥) → (new.seen s).complete ≡ true
    go (inl e) =
        let own : (new.seen s).complete ≡ (old.seen s).complete = ap (λ (m : Mark). m.complete) (subst (λ (n : ℕ). new.seen n ≡ old.seen n) (sym e) told.own) in
        own ∙ done
    go (inr other) = ap (λ (m : Mark). m.complete) (told.others s other) ∙ told_first (old.seen s) (from.seen s) done

pub told_stays : (from old new : State) (t : Task) → IsTold from old new → Stays old t new t
told_stays from old new t told =
    record {
      setting = ap (λ (f : Frame). f.setting) told.frame;
      seen = seen_told from old new told;
      far = far_told from old new t told;
    }

-- who is told by the one before it, which is done, has seen all smaller scopes complete
pub told_sees : (from old new : State) (t : Task) → IsTold from old new → fills_of old ≡ fills_of from + 1 → IsAsFar from t → is_over t ≡ true → (from.frame.closed ≡ true → (from.seen (fills_of from)).complete ≡ true)
    → SeesAll from → SeesAll new
told_sees from old new t told next far over own sees s low =
    let fills : fills_of new ≡ fills_of old = ap (λ (f : Frame). f.setting.fills) told.frame in
    let apart : s ≢ fills_of old = λ e. absurd (omega (arith, low, fills, e)) in
    ap (λ (m : Mark). m.complete) (told.others s apart) ∙ told_second (old.seen s) (from.seen s) (go (cases_eq s (fills_of from)))
  where
    go : (s ≡ fills_of from) ⊎ (s ≡ fills_of from → ⊥) → (from.seen s).complete ≡ true
    go (inl e) = subst (λ (n : ℕ). (from.seen n).complete ≡ true) (sym e) (own (over_closed from t far over))
    go (inr other) = let fills : fills_of new ≡ fills_of old = ap (λ (f : Frame). f.setting.fills) told.frame in sees s (omega (arith, low, fills, next, other))
