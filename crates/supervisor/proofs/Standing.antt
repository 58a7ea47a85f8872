-- A turn of one task leaves the others as far as they were, and waits for no scope that is complete.
use Rattle.std.specs.Prelude.{◌≡◌, ◌≢◌, ◌⊎◌, refl, ℕ, zero, suc, ◌+◌, ◌<◌, ◌≤◌, true, List, [], ◌∷◌, length, slice_get, slice_set, Option, Some, None}
use Rattle.std.proofs.Common.{ap, subst, sym, ◌∙◌, inl, inr, arith, get_or-set_other}
use Rattle.std.proofs.lemmas.Bool.{cases_eq, false≢true}
use Rattle.std.proofs.lemmas.List.{length-map}
use Rattle.m2_base.specs.Finished.{IsFinished, WhereFinished}
use Rattle.m2_base.specs.States.{Mark, Setting, State, Turns, Waits, mark_of}
use Rattle.m2_base.specs.Tables.{Table, head_of, no_rows, rows_at, table_at}
use Rattle.m2_base.specs.Units.{UnitTexts}
use Rattle.m2_base.specs.declared.replies.Head.{Head}
use Rattle.m2_base.specs.declared.rows.Row.{Row}
use Rattle.m2_base.proofs.FinishedLaws.{finished-standard}
use Rattle.m2_base.proofs.Kept.{IsLater-refl, IsLater-trans}
use Rattle.scope_core.specs.Fronts.{ShowsFront}
use Rattle.scope_core.specs.PlainScopes.{IsBegun, Plain, moved}
use Rattle.stream_split.specs.Sizes.{room_of}
use Rattle.stream_split.specs.Streams.{streams_of}
use Rattle.task_state.specs.Progress.{Ends, IsAsFar, is_over}
use Rattle.task_state.specs.declared.task.Task.{Task}
use Rattle.task_state.specs.declared.task.Turn.{Turn}
use Rattle.task_state.specs.declared.task.Turn.TheVariants.{Done, Parked}
use Rattle.task_state.proofs.Finished.{over_closed}
use Rattle.unit_tasks.proofs.Frames.{far_beside, state_beside}
use Rattle.supervisor.specs.Stands.{AreFull, AreOver, AreOverBefore, HasGrown, IsStand, IsTurned, state_at}

-- ** Scopes that fill one

-- a table has a front of the finished rows of its scope
abbrev FrontIn : UnitTexts → Table → ℕ → Type 0
FrontIn u t s = WhereFinished u (λ tables. IsBegun t (rows_at tables s))

-- what a turn at one scope leaves of the others
pub record IsElsewhere (p q : Plain) (place : ℕ) : Type 0 where
  pub texts : q.texts ≡ p.texts
  pub areas : q.areas ≡ p.areas
  pub tables : (s : ℕ) → s ≢ place + 1 → table_at q.tables s ≡ table_at p.tables s

the_others : (g : Setting) (h : Setting) (xs ys : List Table) → g.others ≡ Some xs → h.others ≡ Some ys → h ≡ g → ys ≡ xs
the_others g h xs ys e f same = let all : Some ys ≡ Some xs = sym f ∙ ap (λ (x : Setting). x.others) same ∙ e in cc

elsewhere : (p q : Plain) (place : ℕ) → Turns (state_at p place) (state_at q place) → IsElsewhere p q place
elsewhere p q place turns =
    let same = turns.setting in
    let others : slice_set q.tables (place + 1) no_rows ≡ slice_set p.tables (place + 1) no_rows =
    the_others (state_at p place).frame.setting (state_at q place).frame.setting _ _ refl refl same in
    record {
      texts = ap (λ (g : Setting). g.texts) same;
      areas = ap (λ (g : Setting). g.areas) same;
      tables = λ s other.
          sym (get_or-set_other q.tables (place + 1) s no_rows no_rows other)
          ∙ ap (λ (ts : List Table). table_at ts s) others
          ∙ get_or-set_other p.tables (place + 1) s no_rows no_rows other;
    }

-- a task at another place is as far as it was
still_far : (p q : Plain) (place k : ℕ) (t : Task) → IsElsewhere p q place → k ≢ place → IsAsFar (state_at p k) t → IsAsFar (state_at q k) t
still_far p q place k t stays other far =
    let apart : k + 1 ≢ place + 1 = λ e. other (omega (arith, e)) in
    let table = stays.tables (k + 1) apart in
    let o : Option (List Table) = Some (slice_set q.tables (k + 1) no_rows) in
    let seen : ℕ → Mark = λ s. mark_of (head_of s (table_at q.tables s)) in
    let same : state_beside o seen (state_at p k) ≡ state_at q k = λ i.
    record {
      frame = record {
        setting = record { texts = sym stays.texts i; fills = k + 1; areas = sym stays.areas i; others = o };
        entered = (sym table i).rows;
        closed = (sym table i).complete;
      };
      seen = seen;
      looks = None;
    } in
    subst (λ (st : State). IsAsFar st t) same (far_beside o seen (state_at p k) t far)

-- and its scope has the same front
still_front : (p q : Plain) (place k : ℕ) → IsElsewhere p q place → k ≢ place → ShowsFront (state_at p k) → ShowsFront (state_at q k)
still_front p q place k stays other front =
    let apart : k + 1 ≢ place + 1 = λ e. other (omega (arith, e)) in
    let table = stays.tables (k + 1) apart in
    let here : FrontIn p.texts (table_at p.tables (k + 1)) (k + 1) = λ tables finished. let f = front tables finished in record { first = f.entered; whole = f.whole } in
    let there : FrontIn q.texts (table_at q.tables (k + 1)) (k + 1) =
    subst (λ (u : UnitTexts). FrontIn u (table_at q.tables (k + 1)) (k + 1)) (sym stays.texts) (subst (λ (t : Table). FrontIn p.texts t (k + 1)) (sym table) here) in
    λ tables finished. let f = there tables finished in record { entered = f.first; whole = f.whole }

-- the scopes that fill a scope are those that were moved there
pub moved_is : (q : Plain) (n : ℕ) → q.fills ≡ n → moved q n ≡ q
moved_is q n e = λ i. record { texts = q.texts; tables = q.tables; areas = q.areas; fills = sym e i }

pub grown : (p q : Plain) (place : ℕ) → Turns (state_at p place) (state_at q place) → HasGrown p q
grown p q place turns = record {
  texts = ap (λ (g : Setting). g.texts) turns.setting;
  areas = ap (λ (g : Setting). g.areas) turns.setting;
  heads = turns.seen;
}

pub grown-refl : (p : Plain) → HasGrown p p
grown-refl p = record { texts = refl; areas = refl; heads = λ s. IsLater-refl (mark_of (head_of s (table_at p.tables s))) }

pub grown-trans : (p q r : Plain) → HasGrown p q → HasGrown q r → HasGrown p r
grown-trans p q r a b = record { texts = b.texts ∙ a.texts; areas = b.areas ∙ a.areas; heads = λ s. IsLater-trans (a.heads s) (b.heads s) }

-- ** A turn of a task

-- a list with another item at a place
at_set : {A : Type 0} (xs : List A) (i : ℕ) (x y : A) → slice_get (slice_set xs i x) i ≡ Some y → x ≡ y
at_set [] i x y e = absurd cc
at_set (z ∷ xs) zero x y e = cc
at_set (z ∷ xs) (suc i) x y e = at_set xs i x y e

pub off_set : {A : Type 0} (xs : List A) (i : ℕ) (x : A) (k : ℕ) → k ≢ i → slice_get (slice_set xs i x) k ≡ slice_get xs k
off_set [] i x k other = refl
off_set (z ∷ xs) zero x zero other = absurd (other refl)
off_set (z ∷ xs) zero x (suc k) other = refl
off_set (z ∷ xs) (suc i) x zero other = refl
off_set (z ∷ xs) (suc i) x (suc k) other = off_set xs i x k (λ e. other (ap suc e))

set_long : {A : Type 0} (xs : List A) (i : ℕ) (x : A) → length (slice_set xs i x) ≡ length xs
set_long [] i x = refl
set_long (z ∷ xs) zero x = refl
set_long (z ∷ xs) (suc i) x = ap suc (set_long xs i x)

module _ (u : UnitTexts) (p q : Plain) (tasks : List Task) (place : ℕ) (t : Task) (stand : IsStand u p tasks) (turns : Turns (state_at p place) (state_at q place)) (far : IsAsFar (state_at q place) t) (front : ShowsFront (state_at q place)) where
  stays : IsElsewhere p q place
  stays = elsewhere p q place turns

  each_far : (k : ℕ) (x : Task) → slice_get (slice_set tasks place t) k ≡ Some x → IsAsFar (state_at q k) x
  each_far k x there = go (cases_eq k place)
    where
      go : (k ≡ place) ⊎ (k ≡ place → ⊥) → IsAsFar (state_at q k) x
      go (inl e) =
          let same : t ≡ x = at_set tasks place t x (subst (λ (n : ℕ). slice_get (slice_set tasks place t) n ≡ Some x) e there) in
          subst (λ (n : ℕ). IsAsFar (state_at q n) x) (sym e) (subst (λ (y : Task). IsAsFar (state_at q place) y) same far)
      go (inr other) = still_far p q place k x stays other (stand.far k x (sym (off_set tasks place t k other) ∙ there))

  each_front : (k : ℕ) → k < length (slice_set tasks place t) → ShowsFront (state_at q k)
  each_front k low = go (cases_eq k place)
    where
      go : (k ≡ place) ⊎ (k ≡ place → ⊥) → ShowsFront (state_at q k)
      go (inl e) = subst (λ (n : ℕ). ShowsFront (state_at q n)) (sym e) front
      go (inr other) = let long = set_long tasks place t in still_front p q place k stays other (stand.fronts k (omega (arith, low, long)))

  -- all tasks are as far as their scopes behind it
  pub still_standing : IsStand u q (slice_set tasks place t)
  still_standing =
      let long = set_long tasks place t in
      record {
        texts = stays.texts ∙ stand.texts;
        areas = stays.areas ∙ stand.areas;
        standard = stays.tables 0 (λ e. omega (arith, e)) ∙ stand.standard;
        fronts = each_front;
        count = long ∙ stand.count;
        few = (let few = stand.few in omega (arith, long, few));
        far = each_far;
      }

pub turned : (p q : Plain) (tasks : List Task) (place : ℕ) (t : Task) (turn : Turn) → Ends (state_at p place) (state_at q place) t turn → IsTurned p q place tasks (slice_set tasks place t) turn
turned p q tasks place t turn ends =
    record {
      others = λ k other. off_set tasks place t k other;
      ends = λ x there. subst (λ (y : Task). Ends (state_at p place) (state_at q place) y turn) (at_set tasks place t x there) ends;
    }

-- ** No turn waits where all smaller scopes are complete

module _ (u : UnitTexts) (p : Plain) (tasks : List Task) (stand : IsStand u p tasks) where
  -- the scope of a task that is done is complete
  over_complete : (k : ℕ) (t : Task) → slice_get tasks k ≡ Some t → is_over t ≡ true → (table_at p.tables (k + 1)).complete ≡ true
  over_complete k t there over = over_closed (state_at p k) t (stand.far k t there) over

  got : {A : Type 0} (xs : List A) (k : ℕ) → k < length xs → (x : A) × (slice_get xs k ≡ Some x)
  got [] k h = absurd (omega (arith, h))
  got (x ∷ xs) zero h = (x, refl)
  got (x ∷ xs) (suc k) h = got xs k (omega (arith, h))

  smaller_complete : (n s : ℕ) → n ≤ length tasks → AreOverBefore n tasks → s < n + 1 → (table_at p.tables s).complete ≡ true
  smaller_complete n zero fits over low = ap (λ (x : Table). x.complete) stand.standard
  smaller_complete n (suc s) fits over low =
      let within : s < n = omega (arith, low) in
      let t = got tasks s (omega (arith, within, fits)) in
      let next : s + 1 ≡ suc s = omega arith in
      subst (λ (k : ℕ). (table_at p.tables k).complete ≡ true) next (over_complete s t.0 t.1 (over s t.0 within t.1))

  pub never_waits : (q : Plain) (place : ℕ) (head : Head) → place < length tasks → AreOverBefore place tasks → Waits (state_at p place) (state_at q place) head → ⊥
  never_waits q place head there over waits =
      let done = smaller_complete place head.scope (omega (arith, there)) over waits.smaller in
      let same : mark_of head ≡ (state_at p place).seen head.scope = waits.from.complete done in
      let complete : head.complete ≡ true = ap (λ (m : Mark). m.complete) same ∙ done in
      false≢true (sym waits.incomplete ∙ complete)

  -- a turn doesn't park there
  pub never_parks : (q : Plain) (place : ℕ) (new : List Task) (turn : Turn) (head : Head) → turn ≡ Parked head → place < length tasks → IsStand u q new → AreOverBefore place tasks → IsTurned p q place tasks new turn → ⊥
  never_parks q place new turn head is there after over made =
      let same_count = stand.count in
      let new_count = after.count in
      let t = got new place (omega (arith, there, same_count, new_count)) in
      never_waits q place head there over (subst (λ (x : Turn). Ends (state_at p place) (state_at q place) t.0 x) is (made.ends t.0 t.1))

  -- where all tasks are done, every scope is complete, and has its rows
  pub all_full : AreOver tasks → AreFull p
  all_full over = record { complete = complete; rows = rows }
    where
      low_enough : (s : ℕ) → s < length p.areas → s < length tasks + 1
      low_enough s low =
          let many = length-map (streams_of u) room_of in
          let sizes = ap length stand.areas in
          let count = stand.count in
          omega (arith, low, many, sizes, count)

      complete : (s : ℕ) → s < length p.areas → (table_at p.tables s).complete ≡ true
      complete s low = smaller_complete (length tasks) s (omega arith) over (low_enough s low)

      rows : (tables : List (List Row)) → IsFinished p.texts tables → (s : ℕ) → s < length p.areas → (table_at p.tables s).rows ≡ rows_at tables s
      rows tables finished zero low = ap (λ (x : Table). x.rows) stand.standard ∙ sym (finished-standard p.texts tables finished)
      rows tables finished (suc k) low =
          let within = low_enough (suc k) low in
          let next : k + 1 ≡ suc k = omega arith in
          let done : (table_at p.tables (k + 1)).complete ≡ true = subst (λ (n : ℕ). (table_at p.tables n).complete ≡ true) (sym next) (complete (suc k) low) in
          subst (λ (n : ℕ). (table_at p.tables n).rows ≡ rows_at tables n) next ((stand.fronts k (omega (arith, within)) tables finished).whole done)

-- the tasks before a place and that at it
pub one_more_over : (p q : Plain) (place : ℕ) (old new : List Task) → IsTurned p q place old new Done → AreOverBefore place old → AreOverBefore (place + 1) new
one_more_over p q place old new turned over k t low there = go (cases_eq k place)
  where
    go : (k ≡ place) ⊎ (k ≡ place → ⊥) → is_over t ≡ true
    go (inl e) = turned.ends t (subst (λ (n : ℕ). slice_get new n ≡ Some t) e there)
    go (inr other) = over k t (omega (arith, low, other)) (sym (turned.others k other) ∙ there)

-- that none is before the first place
pub none_over : (tasks : List Task) → AreOverBefore 0 tasks
none_over tasks k t low there = absurd (omega (arith, low))
