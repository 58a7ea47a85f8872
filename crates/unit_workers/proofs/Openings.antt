-- The jobs of a unit before their first turns.
use Rattle.std.specs.Prelude.{◌≡◌, ◌≢◌, refl, ℕ, zero, suc, ◌+◌, ◌*◌, ◌<◌, Bool, true, false, List, [], ◌∷◌, ◌++◌, drop, length, map, slice_get, slice_index, take, Some, All}
use Rattle.std.specs.List.{AllZip, range_with_len, zip}
use Rattle.std.proofs.Common.{ap, subst, sym, ◌∙◌, arith}
use Rattle.std.proofs.lemmas.Bool.{false≢true}
use Rattle.std.proofs.lemmas.List.{length-map}
use Rattle.m2_base.specs.States.{State, fills_of}
use Rattle.m2_base.specs.Units.{IsUnit, UnitTexts}
use Rattle.m2_base.specs.declared.sites.Around.{Around}
use Rattle.relay.specs.Places.{numbers_to}
use Rattle.scope_table.specs.Rule.{base, empty_at, mid, scopes, shown_at, texts_in}
use Rattle.scope_table.specs.Seats.{IsFirst, IsOpened, key_of, scope_of, view}
use Rattle.scope_table.specs.declared.table.ScopeTable.{ScopeTable}
use Rattle.scope_table.specs.declared.table.TableSeat.{TableSeat}
use Rattle.scope_table.specs.declared.view.About.{About}
use Rattle.scope_table.specs.declared.view.Shown.{Shown}
use Rattle.dky_search.specs.Seen.{area, areas_from, areas_in}
use Rattle.stream_split.specs.Chains.{around_view}
use Rattle.stream_split.specs.Sizes.{room_of, sizes_of}
use Rattle.stream_split.specs.Streams.{StreamOf, streams_of}
use Rattle.stream_split.specs.Surroundings.{surroundings_of}
use Rattle.stream_split.specs.Views.{stream_view}
use Rattle.stream_split.specs.declared.streams.StreamTokens.{StreamTokens}
use Rattle.stream_split.proofs.StreamCounts.{number_is, streams_counted}
use Rattle.task_state.specs.Progress.{IsAsFar, is_over}
use Rattle.task_state.specs.declared.task.Task.{Task}
use Rattle.task_state.proofs.Finished.{over_closed}
use Rattle.unit_tasks.specs.Starts.{IsEmptyFor, IsNew, StartsIn}
use Rattle.unit_tasks.specs.Units.{CanBeRun, block_in}
use Rattle.unit_tasks.proofs.Starting.{starts, zip_count, zip_from, zip_long, zipped_at}
use Rattle.unit_workers.specs.Jobs.{Fits, SeesAll}
use Rattle.unit_workers.specs.Starts.{AreOthers, IsBegun, IsUnused, first_state}
use Rattle.unit_workers.proofs.Places.{all_from, at_or, firsts_zip, low_of, map_zip, seconds_zip, unmap_zip, weaker}

-- ** Rooms

areas_are : (a : About) (j : ℕ) (sizes : List ℕ) → ((k : ℕ) → k < length sizes → mid a (j + k) ≡ base a (j + k) + 8 * slice_index sizes k) → areas_from a j (length sizes) ≡ sizes
areas_are a j [] rooms = refl
areas_are a j (n ∷ sizes) rooms =
    let here : mid a j ≡ base a j + 8 * n = subst (λ (i : ℕ). mid a i ≡ base a i + 8 * n) (omega arith) (rooms 0 (omega arith)) in
    let first : area a j ≡ n = omega (arith, here) in
    let next : (k : ℕ) → k < length sizes → mid a (suc j + k) ≡ base a (suc j + k) + 8 * slice_index sizes k =
    λ k low. subst (λ (i : ℕ). mid a i ≡ base a i + 8 * slice_index sizes k) (omega arith) (rooms (suc k) (omega (arith, low))) in
    let rest = areas_are a (suc j) sizes next in
    λ i. first i ∷ rest i

all_areas : (a : About) (sizes : List ℕ) → scopes a ≡ length sizes → ((k : ℕ) → k < length sizes → mid a k ≡ base a k + 8 * slice_index sizes k) → areas_in a ≡ sizes
all_areas a sizes many rooms =
    ap (areas_from a 0) many ∙ areas_are a 0 sizes (λ k low. subst (λ (i : ℕ). mid a i ≡ base a i + 8 * slice_index sizes k) (omega arith) (rooms k low))

-- ** Seats

-- the seats behind the first
pub all_others : (t : ScopeTable) (u : UnitTexts) (seats rest : List TableSeat) → rest ≡ take 0 seats ++ drop 1 seats → IsOpened t seats u (sizes_of (streams_of u)) → AreOthers t u rest
all_others t u [] rest e opened = let all = opened.seats_are.all in absurd (omega (arith, all))
all_others t u (s ∷ seats) rest e opened = record { zero = s; opened = subst (λ (ss : List TableSeat). IsOpened t (s ∷ ss) u (sizes_of (streams_of u))) (sym e) opened }

module _ (t : ScopeTable) (u : UnitTexts) (seats : List TableSeat) (others : AreOthers t u seats) where
  pub texts_same : texts_in (key_of t) ≡ u
  texts_same = others.opened.texts_are

  seat_first : (k : ℕ) (s : TableSeat) → slice_get seats k ≡ Some s → IsFirst t (suc k) s
  seat_first k s there =
      let all = others.opened.seats_are.all in
      let low = low_of seats k s there in
      subst (λ (x : TableSeat). IsFirst t (suc k) x) (at_or seats k s s there) (others.opened.seats_are.each (suc k) s (omega (arith, all, low)))

  unused : (k : ℕ) (s : TableSeat) → slice_get seats k ≡ Some s → IsUnused t s
  unused k s there =
      let f = seat_first k s there in
      let scope = f.scope in
      record { table = f.table; inner = λ e. absurd (omega (arith, scope, e)); none_put = f.start.put }

  pub all_unused : All (IsUnused t) seats
  all_unused = all_from (IsUnused t) seats unused

  -- the scope of a seat, as its handle holds it at first
  empty_first : (k : ℕ) (s : TableSeat) (stream : StreamOf) → slice_get seats k ≡ Some s → stream.stream ≡ k + 1 → IsEmptyFor u stream (first_state t s)
  empty_first k s stream there number =
      let f = seat_first k s there in
      let scope = f.scope in
      let all = others.opened.seats_are.all in
      let many = others.opened.many in
      let low = low_of seats k s there in
      let inside : suc k < scopes (key_of t) = omega (arith, all, many, low) in
      let empty : shown_at (view s) (scope_of s) ≡ empty_at (key_of t) (suc k) = ap (shown_at (view s)) scope ∙ f.start.others (suc k) (omega arith) inside in
      record {
        texts = texts_same;
        fills = omega (arith, scope, number);
        areas = all_areas (key_of t) (sizes_of (streams_of u)) others.opened.many others.opened.rooms;
        entered = ap (λ (x : Shown). x.rows) empty;
        closed = ap (λ (x : Shown). x.complete) empty;
      }

  first_seen : (k : ℕ) (s : TableSeat) → slice_get seats k ≡ Some s → fills_of (first_state t s) ≡ 1 → SeesAll (first_state t s)
  first_seen k s there one n low =
      let none : 0 ≡ n = omega (arith, one, low) in
      subst (λ (i : ℕ). (shown_at (view s) i).complete ≡ true) none (seat_first k s there).start.zero_complete

  -- a task that is done has completed its scope
  undone : (st : State) (task : Task) → IsAsFar st task → st.frame.closed ≡ false → is_over task ≡ false
  undone st task far open_yet = go (is_over task) refl
    where
      go : (b : Bool) → b ≡ is_over task → is_over task ≡ false
      go false e = sym e
      go true e = absurd (false≢true (sym open_yet ∙ over_closed st task far (sym e)))

  begun : (k : ℕ) (s : TableSeat) (stream : StreamOf) (task : Task) → slice_get seats k ≡ Some s → slice_get (streams_of u) k ≡ Some stream → StartsIn u stream task → IsBegun u stream (first_state t s) task
  begun k s stream task seat there starts =
      let empty = empty_first k s stream seat (number_is u k stream there) in
      let far = starts (first_state t s) empty in
      record {
        fills = empty.fills;
        undone = undone (first_state t s) task far empty.closed;
        fits = record { texts = texts_same; first = first_seen k s seat; far = far };
      }

  -- ** Jobs

  module _ {A : Type 0} (state : A → State) (task : A → Task) (unit : IsUnit u) (can : CanBeRun u) (streams : List StreamTokens) (arounds : List Around) (jobs : List A)
      (cut : map stream_view streams ≡ streams_of u) (blocks : map around_view arounds ≡ surroundings_of u)
      (made : AllZip (λ p j. IsNew (stream_view p.0.0) p.0.1 (task j) × (state j ≡ first_state t p.1)) (zip (zip streams arounds) seats) jobs) where
    many_streams : length streams ≡ length (streams_of u)
    many_streams =
        let views = length-map streams stream_view in
        let all = ap length cut in
        omega (arith, views, all)

    many_blocks : length (zip streams arounds) ≡ length (streams_of u)
    many_blocks =
        let a = length-map arounds around_view in
        let b = length-map (streams_of u) (block_in u) in
        let c = ap length blocks in
        let all = many_streams in
        let zipped = zip_count streams arounds (omega (arith, a, b, c, all)) in
        omega (arith, zipped, all)

    many_seats : length seats ≡ length (zip streams arounds)
    many_seats =
        let seated = others.opened.seats_are.all in
        let sizes = length-map (streams_of u) room_of in
        let all = many_blocks in
        omega (arith, seated, sizes, all)

    tasks_new : AllZip (λ p j. IsNew (stream_view p.0) p.1 (task j)) (zip streams arounds) jobs
    tasks_new =
        firsts_zip (λ (p : StreamTokens × Around) (j : A). IsNew (stream_view p.0) p.1 (task j)) (zip streams arounds) seats jobs many_seats
        (weaker _ (λ (p : (StreamTokens × Around) × TableSeat) (j : A). IsNew (stream_view p.0.0) p.0.1 (task j)) (λ p j both. both.0) (zip (zip streams arounds) seats) jobs made)

    held : AllZip (λ s j. state j ≡ first_state t s) seats jobs
    held =
        seconds_zip (λ (s : TableSeat) (j : A). state j ≡ first_state t s) (zip streams arounds) seats jobs many_seats
        (weaker _ (λ (p : (StreamTokens × Around) × TableSeat) (j : A). state j ≡ first_state t p.1) (λ p j both. both.1) (zip (zip streams arounds) seats) jobs made)

    started : AllZip (λ s j. StartsIn u s (task j)) (streams_of u) jobs
    started =
        unmap_zip (StartsIn u) task (streams_of u) jobs
        (starts u unit can streams arounds (map task jobs) cut blocks (map_zip (λ (p : StreamTokens × Around) (x : Task). IsNew (stream_view p.0) p.1 x) task (zip streams arounds) jobs tasks_new))

    begun_at : (k : ℕ) (s : StreamOf) (j : A) → slice_get (streams_of u) k ≡ Some s → slice_get jobs k ≡ Some j → IsBegun u s (state j) (task j)
    begun_at k s j there given =
        let h = zipped_at (λ x y. state y ≡ first_state t x) seats jobs held k j given in
        let w = zipped_at (λ x y. StartsIn u x (task y)) (streams_of u) jobs started k j given in
        let here : Some w.item ≡ Some s = sym w.there ∙ there in
        let same : w.item ≡ s = cc in
        let b = begun k h.item s (task j) h.there there (subst (λ (x : StreamOf). StartsIn u x (task j)) same w.holds) in
        subst (λ (st : State). IsBegun u s st (task j)) (sym h.holds) b

    many_jobs : length jobs ≡ length (streams_of u)
    many_jobs = zip_long (λ s j. StartsIn u s (task j)) (streams_of u) jobs started

    -- each stream has its job
    pub all_begun : AllZip (λ s j. IsBegun u s (state j) (task j)) (streams_of u) jobs
    all_begun = zip_from (λ s j. IsBegun u s (state j) (task j)) (streams_of u) jobs many_jobs begun_at

-- ** What is asked of jobs

module _ {A : Type 0} (u : UnitTexts) (state : A → State) (task : A → Task) (jobs : List A) (begun : AllZip (λ s j. IsBegun u s (state j) (task j)) (streams_of u) jobs) where
  one_for_each : length jobs ≡ length (streams_of u)
  one_for_each = zip_long (λ s j. IsBegun u s (state j) (task j)) (streams_of u) jobs begun

  pub some_jobs : IsUnit u → 0 < length jobs
  some_jobs unit =
      let all = streams_counted u unit in
      let each = one_for_each in
      omega (arith, all, each)

  begun_of : (k : ℕ) (j : A) → slice_get jobs k ≡ Some j → (s : StreamOf) × (slice_get (streams_of u) k ≡ Some s) × IsBegun u s (state j) (task j)
  begun_of k j there = let z = zipped_at (λ s x. IsBegun u s (state x) (task x)) (streams_of u) jobs begun k j there in (z.item, z.there, z.holds)

  pub all_undone : All (λ j. is_over (task j) ≡ false) jobs
  all_undone = all_from (λ j. is_over (task j) ≡ false) jobs (λ k j there. (begun_of k j there).2.undone)

  pub all_fit : All (λ j. Fits u (state j) (task j)) jobs
  all_fit = all_from (λ j. Fits u (state j) (task j)) jobs (λ k j there. (begun_of k j there).2.fits)

  fills_at : (k : ℕ) (j : A) → slice_get jobs k ≡ Some j → fills_of (state j) ≡ k + 1
  fills_at k j there = let b = begun_of k j there in b.2.fills ∙ number_is u k b.0 b.1

  -- they are numbered in their order
  pub numbered : map (λ j. fills_of (state j)) jobs ≡ numbers_to (length jobs)
  numbered = counted (λ j. fills_of (state j)) 1 jobs (λ k j there. let e = fills_at k j there in omega (arith, e))
    where
      counted : (number : A → ℕ) (n : ℕ) (xs : List A) → ((k : ℕ) (x : A) → slice_get xs k ≡ Some x → number x ≡ n + k) → map number xs ≡ range_with_len n (length xs)
      counted number n [] each = refl
      counted number n (x ∷ xs) each =
          let first : number x ≡ n = each 0 x refl ∙ omega arith in
          let rest = counted number (n + 1) xs (λ k y there. each (suc k) y there ∙ omega arith) in
          λ i. first i ∷ rest i
