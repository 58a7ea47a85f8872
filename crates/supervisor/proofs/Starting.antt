-- Before the first turn: each task is as far as its scope, in which nothing is entered; and behind the last: what each task leaves
-- is the output of its stream.
use Rattle.std.specs.Prelude.{◌≡◌, refl, ℕ, zero, suc, ◌+◌, ◌-◌, ◌<◌, List, [], ◌∷◌, ◌++◌, drop, length, map, replicate, slice_get, take, Some, Result, Ok, Err}
use Rattle.std.specs.List.{AllZip}
use Rattle.std.proofs.Common.{ap, subst, sym, ◌∙◌, arith}
use Rattle.std.specs.Result.{OnOk}
use Rattle.std.proofs.lemmas.Bool.{false≢true}
use Rattle.std.proofs.Math.Seq.{take-append_seam}
use Rattle.m2_base.specs.Lists.{IsPrefixOf}
use Rattle.m2_base.specs.Statics.Contexts.{Block}
use Rattle.m2_base.specs.Tables.{Table, no_rows, rows_at, table_at}
use Rattle.m2_base.specs.Units.{IsUnit, UnitTexts}
use Rattle.m2_base.specs.declared.outputs.Output.{Output}
use Rattle.m2_base.specs.declared.sites.Around.{Around}
use Rattle.scope_core.specs.Fronts.{ShowsFront}
use Rattle.scope_core.specs.PlainScopes.{Plain, first_tables}
use Rattle.stream_split.specs.Chains.{around_view}
use Rattle.stream_split.specs.Sizes.{sizes_of}
use Rattle.stream_split.specs.Streams.{StreamOf, streams_of}
use Rattle.stream_split.specs.Surroundings.{surroundings_of}
use Rattle.stream_split.specs.Views.{stream_view}
use Rattle.stream_split.specs.declared.streams.StreamTokens.{StreamTokens}
use Rattle.stream_split.proofs.StreamCounts.{number_is, streams_few}
use Rattle.task_state.specs.Outputs.{IsOutput}
use Rattle.task_state.specs.Progress.{IsAsFar}
use Rattle.task_state.specs.declared.task.Task.{Task}
use Rattle.unit_tasks.specs.Outputs.{AreOfStreams, IsOutputIn}
use Rattle.unit_tasks.specs.Starts.{AreNew, IsNew}
use Rattle.unit_tasks.specs.Units.{CanBeRun, block_in}
use Rattle.unit_tasks.proofs.Starting.{new_at, task_count, zip_from, zip_long, zipped_at}
use Rattle.supervisor.specs.Stands.{IsStand, Leaves, first_scopes, state_at}

-- ** Before the first turn

empty_from : (m s : ℕ) → table_at (replicate m no_rows) s ≡ no_rows
empty_from zero s = refl
empty_from (suc m) zero = refl
empty_from (suc m) (suc s) = empty_from m s

empty_at : (m k : ℕ) → table_at (first_tables m) (k + 1) ≡ no_rows
empty_at m k = let next : k + 1 ≡ suc k = omega arith in ap (table_at (first_tables m)) next ∙ empty_from m k

module _ (u : UnitTexts) (unit : IsUnit u) (can : CanBeRun u) where
  first_far : (k : ℕ) (s : StreamOf) (a : Around) (t : Task) → slice_get (streams_of u) k ≡ Some s → around_view a ≡ block_in u s → IsNew s a t → IsAsFar (state_at (first_scopes u) k) t
  first_far k s a t there around new =
      let empty = empty_at (length (sizes_of (streams_of u)) - 1) k in
      new (state_at (first_scopes u) k)
      (record {
        unit = unit;
        limits = can.limits;
        front = can.front;
        fronts = can.fronts;
        whole = can.whole;
        index = k;
        there = there;
        around = around;
        fills = sym (number_is u k s there);
        areas = refl;
      })
      (ap (λ (x : Table). x.rows) empty) (ap (λ (x : Table). x.complete) empty)

  module _ (streams : List StreamTokens) (arounds : List Around) (tasks : List Task) (cut : map stream_view streams ≡ streams_of u) (blocks : map around_view arounds ≡ surroundings_of u) (new : AreNew streams arounds tasks) where
    each_far : (k : ℕ) (t : Task) → slice_get tasks k ≡ Some t → IsAsFar (state_at (first_scopes u) k) t
    each_far k t there =
        let n = new_at u streams arounds tasks cut blocks new k t there in
        first_far k n.stream n.around t n.there n.block n.new

    first_front : (k : ℕ) → k < length tasks → ShowsFront (state_at (first_scopes u) k)
    first_front k low =
        let empty = empty_at (length (sizes_of (streams_of u)) - 1) k in
        λ tables finished.
        record {
          entered = subst (λ (x : Table). IsPrefixOf x.rows (rows_at tables (k + 1))) (sym empty) (record { rest = rows_at tables (k + 1); joined = refl });
          whole = λ done. absurd (false≢true (sym (ap (λ (x : Table). x.complete) empty) ∙ done));
        }

    pub first_stand : IsStand u (first_scopes u) tasks
    first_stand =
        let many = task_count u streams arounds tasks cut blocks new in
        let few = streams_few u unit in
        record {
          texts = refl;
          areas = refl;
          standard = refl;
          fronts = first_front;
          count = many;
          few = omega (arith, many, few);
          far = each_far;
        }

-- ** Behind the last turn

module _ (u : UnitTexts) (p : Plain) (tasks : List Task) (stand : IsStand u p tasks) (outputs : List Output) (left : AllZip Leaves tasks outputs) where
  each_left : (k : ℕ) (s : StreamOf) (o : Output) → slice_get (streams_of u) k ≡ Some s → slice_get outputs k ≡ Some o → IsOutputIn u s o
  each_left k s o there given =
      let z = zipped_at Leaves tasks outputs left k o given in
      let l = z.holds (state_at p k) (stand.far k z.item z.there) in
      let number = number_is p.texts l.of_unit.index l.stream l.of_unit.there in
      let fills : k + 1 ≡ l.stream.stream = l.of_unit.fills in
      let place : l.of_unit.index ≡ k = omega (arith, number, fills) in
      let at : slice_get (streams_of u) k ≡ Some l.stream = ap (λ (v : UnitTexts). slice_get (streams_of v) k) (sym stand.texts) ∙ ap (slice_get (streams_of p.texts)) (sym place) ∙ l.of_unit.there in
      let both : Some l.stream ≡ Some s = sym at ∙ there in
      let same : l.stream ≡ s = cc in
      subst (λ (x : StreamOf). IsOutputIn u x o) same
      (subst (λ (v : UnitTexts). IsOutputIn v l.stream o) stand.texts (subst (λ (b : Block). IsOutput p.texts l.stream b o) l.of_unit.around l.ended.output))

  pub all_left : AreOfStreams u outputs
  all_left =
      let long = zip_long Leaves tasks outputs left in
      zip_from (IsOutputIn u) (streams_of u) outputs (long ∙ stand.count) each_left

-- of tasks that were lent and written
lent_whole : {A : Type 0} (n : ℕ) (old new : List A) → length new ≡ n → take n (new ++ drop (length new) old) ≡ new
lent_whole n old new e = ap (λ (k : ℕ). take k (new ++ drop (length new) old)) (sym e) ∙ take-append_seam new (drop (length new) old)

pub lent_left : (u : UnitTexts) (p : Plain) (n : ℕ) (old new : List Task) → length new ≡ n → IsStand u p new → (outputs : List Output) → AllZip Leaves (take n (new ++ drop (length new) old)) outputs → AreOfStreams u outputs
lent_left u p n old new e stand outputs left = all_left u p new stand outputs (subst (λ (ts : List Task). AllZip Leaves ts outputs) (lent_whole n old new e) left)

-- ** Steps of the loops

pub pairs_same : {A B : Type 0} (xs : List (A × B)) → map (λ (p : A × B). (p.0, p.1)) xs ≡ xs
pairs_same [] = refl
pairs_same {A = A} {B = B} (p ∷ xs) = ap (λ (ys : List (A × B)). p ∷ ys) (pairs_same xs)

pub on_ok : {T E : Type 0} (P : Type 0) (r : Result T E) → P → OnOk r P
on_ok P (Ok x) h = h
on_ok P (Err e) h = tt
