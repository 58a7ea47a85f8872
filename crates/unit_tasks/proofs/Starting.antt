-- Before the first turn: each task stands at the stream at its place, in whatever scopes, as long as nothing is entered there.
use Rattle.std.specs.Prelude.{◌≡◌, refl, ℕ, zero, suc, ◌+◌, ◌-◌, ◌<◌, ◌≤◌, List, [], ◌∷◌, ◌++◌, length, map, option_map, slice_get, slice_index_or, take, IfOk, Some, Result, Ok, Err}
use Rattle.std.specs.List.{AllZip, zip}
use Rattle.std.proofs.Common.{ap, subst, sym, ◌∙◌, arith}
use Rattle.std.proofs.lemmas.List.{length-map}
use Rattle.std.proofs.lemmas.Option.{slice_get-map}
use Rattle.m2_base.specs.States.{Setting}
use Rattle.m2_base.specs.Statics.Contexts.{Block}
use Rattle.m2_base.specs.Units.{IsUnit, UnitTexts}
use Rattle.m2_base.specs.declared.sites.Around.{Around}
use Rattle.stream_split.specs.Chains.{around_view, block_of, own_scope}
use Rattle.stream_split.specs.Sizes.{sizes_of}
use Rattle.stream_split.specs.Streams.{StreamOf, main_number, streams_of}
use Rattle.stream_split.specs.Surroundings.{surroundings_of}
use Rattle.stream_split.specs.Views.{stream_view}
use Rattle.stream_split.specs.declared.streams.StreamTokens.{StreamTokens}
use Rattle.stream_split.proofs.StreamCounts.{number_is}
use Rattle.task_state.specs.Units.{IsOfUnit}
use Rattle.task_state.specs.declared.task.Task.{Task}
use Rattle.unit_tasks.specs.Starts.{AreNew, IsNew, StartsIn}
use Rattle.unit_tasks.specs.Units.{CanBeRun, block_in}

-- ** Lists

pub zip_from : {A B : Type 0} (R : A → B → Type 0) (xs : List A) (ys : List B) → length ys ≡ length xs → ((k : ℕ) (x : A) (y : B) → slice_get xs k ≡ Some x → slice_get ys k ≡ Some y → R x y) → AllZip R xs ys
zip_from R [] [] e f = tt
zip_from R [] (y ∷ ys) e f = absurd (omega (arith, e))
zip_from R (x ∷ xs) [] e f = absurd (omega (arith, e))
zip_from R (x ∷ xs) (y ∷ ys) e f = (f 0 x y refl refl, zip_from R xs ys (omega (arith, e)) (λ k. f (suc k)))

-- the item at the same place of the first list
pub record IsZipped {A B : Type 0} (R : A → B → Type 0) (xs : List A) (k : ℕ) (y : B) : Type 0 where
  pub item : A
  pub there : slice_get xs k ≡ Some item
  pub holds : R item y

pub zipped_at : {A B : Type 0} (R : A → B → Type 0) (xs : List A) (ys : List B) → AllZip R xs ys → (k : ℕ) (y : B) → slice_get ys k ≡ Some y → IsZipped R xs k y
zipped_at R [] [] h k y e = absurd cc
zipped_at R [] (z ∷ ys) h k y e = absurd h
zipped_at R (x ∷ xs) [] h k y e = absurd h
zipped_at R (x ∷ xs) (z ∷ ys) h zero y e = let same : z ≡ y = cc in record { item = x; there = refl; holds = subst (R x) same h.0 }
zipped_at R (x ∷ xs) (z ∷ ys) h (suc k) y e = let r = zipped_at R xs ys h.1 k y e in record { item = r.item; there = r.there; holds = r.holds }

pub zip_long : {A B : Type 0} (R : A → B → Type 0) (xs : List A) (ys : List B) → AllZip R xs ys → length ys ≡ length xs
zip_long R [] [] h = refl
zip_long R [] (y ∷ ys) h = absurd h
zip_long R (x ∷ xs) [] h = absurd h
zip_long R (x ∷ xs) (y ∷ ys) h = ap suc (zip_long R xs ys h.1)

-- the parts of a pair of two lists
pub record IsPair {A B : Type 0} (xs : List A) (ys : List B) (k : ℕ) (p : A × B) : Type 0 where
  pub first : slice_get xs k ≡ Some p.0
  pub second : slice_get ys k ≡ Some p.1

pub pair_at : {A B : Type 0} (xs : List A) (ys : List B) (k : ℕ) (p : A × B) → slice_get (zip xs ys) k ≡ Some p → IsPair xs ys k p
pair_at [] ys k p e = absurd cc
pair_at (x ∷ xs) [] k p e = absurd cc
pair_at {A = A} {B = B} (x ∷ xs) (y ∷ ys) zero p e = let same : (x, y) ≡ p = cc in record { first = ap (λ (q : A × B). Some q.0) same; second = ap (λ (q : A × B). Some q.1) same }
pair_at (x ∷ xs) (y ∷ ys) (suc k) p e = let r = pair_at xs ys k p e in record { first = r.first; second = r.second }

pub zip_count : {A B : Type 0} (xs : List A) (ys : List B) → length ys ≡ length xs → length (zip xs ys) ≡ length xs
zip_count [] ys e = refl
zip_count (x ∷ xs) [] e = absurd (omega (arith, e))
zip_count (x ∷ xs) (y ∷ ys) e = ap suc (zip_count xs ys (omega (arith, e)))

take_suc : {A : Type 0} (xs : List A) (k : ℕ) (x : A) → slice_get xs k ≡ Some x → take (suc k) xs ≡ take k xs ++ x ∷ []
take_suc [] k x e = absurd cc
take_suc {A = A} (y ∷ xs) zero x e = let same : y ≡ x = cc in ap (λ (z : A). z ∷ []) same
take_suc {A = A} (y ∷ xs) (suc k) x e = ap (λ (zs : List A). y ∷ zs) (take_suc xs k x e)

take_next : {A : Type 0} (xs : List A) (k : ℕ) (x : A) → slice_get xs k ≡ Some x → take (k + 1) xs ≡ take k xs ++ x ∷ []
take_next {A = A} xs k x e = let next : k + 1 ≡ suc k = omega arith in ap (λ (n : ℕ). take n xs) next ∙ take_suc xs k x e

map_behind : {A B : Type 0} (f : A → B) (xs : List A) (y : A) → map f (xs ++ y ∷ []) ≡ map f xs ++ f y ∷ []
map_behind f [] y = refl
map_behind {B = B} f (x ∷ xs) y = ap (λ (zs : List B). f x ∷ zs) (map_behind f xs y)

-- ** What surrounds the blocks

module _ (u : UnitTexts) (streams : List StreamTokens) (cut : map stream_view streams ≡ streams_of u) (k : ℕ) (x : StreamTokens) (there : slice_get streams k ≡ Some x) where
  pub stream_there : slice_get (streams_of u) k ≡ Some (stream_view x)
  stream_there = ap (λ (ss : List StreamOf). slice_get ss k) (sym cut) ∙ slice_get-map stream_view streams k ∙ ap (option_map stream_view) there

  pub stream_number : x.stream ≡ k + 1
  stream_number = number_is u k (stream_view x) stream_there

  -- one more
  pub one_more_around : (arounds : List Around) (a : Around) → Some (around_view a) ≡ option_map (block_of (main_number u) (own_scope u) (map stream_view streams)) (slice_get (map stream_view streams) (x.stream - 1))
      → map around_view arounds ≡ map (block_in u) (take k (streams_of u)) → map around_view (arounds ++ a ∷ []) ≡ map (block_in u) (take (k + 1) (streams_of u))
  one_more_around arounds a is so_far =
      let number = stream_number in
      let place : x.stream - 1 ≡ k = omega (arith, number) in
      let at : slice_get (map stream_view streams) (x.stream - 1) ≡ Some (stream_view x) =
      ap (λ (ss : List StreamOf). slice_get ss (x.stream - 1)) cut ∙ ap (slice_get (streams_of u)) place ∙ stream_there in
      let all : Some (around_view a) ≡ Some (block_in u (stream_view x)) =
      is ∙ ap (λ (ss : List StreamOf). option_map (block_of (main_number u) (own_scope u) ss) (slice_get (map stream_view streams) (x.stream - 1))) cut ∙ ap (option_map (block_in u)) at in
      let same : around_view a ≡ block_in u (stream_view x) = cc in
      map_behind around_view arounds a ∙ (λ i. so_far i ++ same i ∷ [])
      ∙ sym (ap (map (block_in u)) (take_next (streams_of u) k (stream_view x) stream_there) ∙ map_behind (block_in u) (take k (streams_of u)) (stream_view x))

-- ** Before the first turn

-- A task is new at the stream at this place, whose block is surrounded as the definition says.
pub record IsNewAt (u : UnitTexts) (k : ℕ) (t : Task) : Type 0 where
  pub stream : StreamOf
  pub around : Around
  pub there : slice_get (streams_of u) k ≡ Some stream
  pub block : around_view around ≡ block_in u stream
  pub new : IsNew stream around t

module _ (u : UnitTexts) (streams : List StreamTokens) (arounds : List Around) (tasks : List Task) (cut : map stream_view streams ≡ streams_of u) (blocks : map around_view arounds ≡ surroundings_of u) (new : AreNew streams arounds tasks) where
  same_count : length arounds ≡ length streams
  same_count =
      let a = length-map arounds around_view in
      let b = length-map (streams_of u) (block_in u) in
      let c = length-map streams stream_view in
      let d = ap length blocks in
      let e = ap length cut in
      omega (arith, a, b, c, d, e)

  -- there is a task for each stream
  pub task_count : length tasks ≡ length (streams_of u)
  task_count =
      let zipped = zip_count streams arounds same_count in
      let long = zip_long _ (zip streams arounds) tasks new in
      let many = length-map streams stream_view in
      let all = ap length cut in
      omega (arith, zipped, long, many, all)

  pub new_at : (k : ℕ) (t : Task) → slice_get tasks k ≡ Some t → IsNewAt u k t
  new_at k t there =
      let z = zipped_at _ (zip streams arounds) tasks new k t there in
      let pair = pair_at streams arounds k z.item z.there in
      let at = stream_there u streams cut k z.item.0 pair.first in
      let view : slice_get (map around_view arounds) k ≡ Some (around_view z.item.1) = slice_get-map around_view arounds k ∙ ap (option_map around_view) pair.second in
      let block : slice_get (map (block_in u) (streams_of u)) k ≡ Some (block_in u (stream_view z.item.0)) = slice_get-map (block_in u) (streams_of u) k ∙ ap (option_map (block_in u)) at in
      let both : Some (around_view z.item.1) ≡ Some (block_in u (stream_view z.item.0)) = sym view ∙ ap (λ (bs : List Block). slice_get bs k) blocks ∙ block in
      let same : around_view z.item.1 ≡ block_in u (stream_view z.item.0) = cc in
      record { stream = stream_view z.item.0; around = z.item.1; there = at; block = same; new = z.holds }

module _ (u : UnitTexts) (unit : IsUnit u) (can : CanBeRun u) where
  of_unit : (g : Setting) (k : ℕ) (s : StreamOf) (a : Around) → g.texts ≡ u → g.fills ≡ s.stream → g.areas ≡ sizes_of (streams_of u) → slice_get (streams_of u) k ≡ Some s → around_view a ≡ block_in u s → IsOfUnit g s a
  of_unit g k s a texts fills areas there around =
      let same : record { texts = u; fills = g.fills; areas = g.areas; others = g.others } ≡ g = λ i. record { texts = sym texts i; fills = g.fills; areas = g.areas; others = g.others } in
      subst (λ (h : Setting). IsOfUnit h s a) same
      (record {
        unit = unit;
        limits = can.limits;
        front = can.front;
        fronts = can.fronts;
        whole = can.whole;
        index = k;
        there = there;
        around = around;
        fills = fills;
        areas = areas;
      })

  module _ (streams : List StreamTokens) (arounds : List Around) (tasks : List Task) (cut : map stream_view streams ≡ streams_of u) (blocks : map around_view arounds ≡ surroundings_of u) (new : AreNew streams arounds tasks) where
    each_starts : (k : ℕ) (s : StreamOf) (t : Task) → slice_get (streams_of u) k ≡ Some s → slice_get tasks k ≡ Some t → StartsIn u s t
    each_starts k s t there given st empty =
        let n = new_at u streams arounds tasks cut blocks new k t given in
        let here : Some s ≡ Some n.stream = sym there ∙ n.there in
        let stream : s ≡ n.stream = cc in
        n.new st (of_unit st.frame.setting k n.stream n.around empty.texts (empty.fills ∙ ap (λ (x : StreamOf). x.stream) stream) empty.areas n.there n.block) empty.entered empty.closed

    pub starts : AllZip (StartsIn u) (streams_of u) tasks
    starts = zip_from (StartsIn u) (streams_of u) tasks (task_count u streams arounds tasks cut blocks new) each_starts

-- ** Steps of the loops

pub read_at : {A : Type 0} (xs : List A) (k : ℕ) (x : A) → k < length xs → x ≡ slice_index_or xs k x → slice_get xs k ≡ Some x
read_at [] k x h e = absurd (omega (arith, h))
read_at {A = A} (y ∷ xs) zero x h e = ap (λ (z : A). Some z) (sym e)
read_at (y ∷ xs) (suc k) x h e = read_at xs k x (omega (arith, h)) e

-- a stream of a unit is one of those that are numbered
pub number_low : (u : UnitTexts) (streams : List StreamTokens) → map stream_view streams ≡ streams_of u → (k : ℕ) (x : StreamTokens) → k < length streams → x ≡ slice_index_or streams k x → (1 ≤ x.stream) × (x.stream ≤ length streams)
number_low u streams cut k x h e =
    let number = stream_number u streams cut k x (read_at streams k x h e) in
    (omega (arith, number), omega (arith, number, h))

-- what holds of a value that isn't an error
pub if_ok : {T E : Type 0} (P Q : T → Type 0) (r : Result T E) → ((x : T) → P x → Q x) → IfOk r P → IfOk r Q
if_ok P Q (Ok x) f h = f x h
if_ok P Q (Err e) f h = tt
