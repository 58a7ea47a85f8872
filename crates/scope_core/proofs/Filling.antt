-- what entering and completing leave of tables that nobody else changes
use Rattle.std.proofs.Common.{◌≡◌, ℕ, ◌<◌, ◌≤◌, ◌+◌, ◌-◌, ◌^◌, Bool, true, List, [], ◌∷◌, ◌++◌, Some, length, get_or, take, drop, refl, sym, ◌∙◌, ap, subst, arith, ◌⊎◌, inl, inr, suc, zero, get_or-set_same, get_or-set_other, length-append, replicate, lit<}
use Rattle.std.specs.List.{slice_get}
use Rattle.std.proofs.Math.ListN.{set}
use Rattle.std.proofs.lemmas.List.{length-set, set-get_or, length-replicate}
use Rattle.std.proofs.lemmas.Bool.{cases_eq, false≢true}
use Rattle.std.proofs.lemmas.Grind.{common_steps}
use Rattle.m2_base.specs.declared.rows.Row.{Row}
use Rattle.m2_base.specs.Rows.{at_place, IsWellFormed}
use Rattle.m2_base.specs.Standard.{standard_rows}
use Rattle.m2_base.specs.Units.{UnitTexts, IsUnit}
use Rattle.m2_base.proofs.FinishedLaws.{finished-standard}
use Rattle.m2_base.proofs.StandardLaws.{IsWellFormed-standard, HasNoRepeats-standard, HasNoRepeats-test}
use Rattle.m2_base.specs.Lists.{HasNoRepeats}
use Rattle.m2_base.specs.Tables.{Table, table_at, rows_at, no_rows, head_of}
use Rattle.m2_base.specs.States.{Setting, Frame, IsLater, mark_of}
use Rattle.m2_base.specs.Scopes.{CanEnter, Entered, CanComplete, Completed}
use Rattle.m2_base.proofs.Kept.{IsPrefixOf-refl, IsLater-refl}
use Rattle.scope_core.specs.Kept.{TableWithRoom, tables_in, rooms_in, with_rows, completed}
use Rattle.scope_core.specs.PlainScopes.{Plain, state_of, IsBegun, IsSoundly, IsHoused, filled, closed, first_tables, standard_table, started, moved}

-- what holds of each table and of the new one holds of each afterwards
pub set_each : (P : ℕ → Table → Type 0) (tables : List Table) (s : ℕ) (t : Table) → s < length tables → ((k : ℕ) → P k (table_at tables k)) → P s t → (k : ℕ) → P k (table_at (set tables s t) k)
set_each P tables s t within all new k = go (cases_eq k s)
  where
    go : (k ≡ s) ⊎ (k ≡ s → ⊥) → P k (table_at (set tables s t) k)
    go (inl same) = subst (λ j. P j (table_at (set tables s t) j)) (sym same) (rw get_or-set_same new)
    go (inr other) = rw get_or-set_other (all k)

slice_get-append : (xs ys : List Row) (k : ℕ) (r : Row) → slice_get (xs ++ ys) k ≡ Some r → (slice_get xs k ≡ Some r) ⊎ ((j : ℕ) × (k ≡ length xs + j) × (slice_get ys j ≡ Some r))
slice_get-append [] ys k r e = inr (k, omega arith, e)
slice_get-append (x ∷ xs) ys zero r e = inl e
slice_get-append (x ∷ xs) ys (suc k) r e =
    elim (slice_get-append xs ys k r e) as (λ _. (slice_get xs k ≡ Some r) ⊎ ((j : ℕ) × (suc k ≡ length (x ∷ xs) + j) × (slice_get ys j ≡ Some r))) [
      | inl h ↦ inl h
      | inr h ↦ inr (h.0, (let e : k ≡ length xs + h.0 = h.1 in omega (arith, e)), h.2)
    ]

formed_rows : (p : Plain) (rows : List Row) → IsSoundly p → CanEnter (state_of p) rows → (k : ℕ) (r : Row) → slice_get ((table_at p.tables p.fills).rows ++ rows) k ≡ Some r → IsWellFormed (length p.texts.names) (at_place p.fills k) r
formed_rows p rows sound can k r e =
    elim (slice_get-append (table_at p.tables p.fills).rows rows k r e) as (λ _. IsWellFormed (length p.texts.names) (at_place p.fills k) r) [
      | inl old ↦ sound.formed p.fills k r old
      | inr new ↦ subst (λ i. IsWellFormed (length p.texts.names) (at_place p.fills i) r) (sym new.1) (can.formed new.0 r new.2)
    ]

-- entering keeps all that holds of tables
pub filled_sound : (p : Plain) (rows : List Row) → ((s : ℕ) → get_or p.areas s 0 < 2 ^ 32) → IsSoundly p → CanEnter (state_of p) rows → IsSoundly (filled p rows)
filled_sound p rows narrow sound can =
    let t : Table = record { rows = (table_at p.tables p.fills).rows ++ rows; complete = (table_at p.tables p.fills).complete } in
    record {
      inside = subst (λ n. p.fills < n) (sym (length-set p.tables p.fills t)) sound.inside;
      sizes = sound.sizes ∙ sym (length-set p.tables p.fills t);
      zero_complete = set_each (λ k u. k ≡ 0 → u.complete ≡ true) p.tables p.fills t sound.inside
          (λ k e. subst (λ j. (table_at p.tables j).complete ≡ true) (sym e) sound.zero_complete)
          (λ e. subst (λ j. (table_at p.tables j).complete ≡ true) (sym e) sound.zero_complete) 0 refl;
      small = set_each (λ k u. length u.rows < 2 ^ 32) p.tables p.fills t sound.inside sound.small
          (omega (arith, length-append (table_at p.tables p.fills).rows rows, can.room, narrow p.fills));
      once = set_each (λ k u. HasNoRepeats (λ r. r.name) u.rows) p.tables p.fills t sound.inside sound.once can.once;
      formed = set_each (λ s u. (k : ℕ) (r : Row) → slice_get u.rows k ≡ Some r → IsWellFormed (length p.texts.names) (at_place s k) r) p.tables p.fills t sound.inside sound.formed (formed_rows p rows sound can);
      told = λ finished told. set_each (λ s u. IsBegun u (rows_at finished s)) p.tables p.fills t sound.inside (sound.told finished told)
          (record { first = can.next finished told; whole = λ done. absurd (false≢true (sym can.open_yet ∙ done)) });
    }

-- completing keeps it, too
pub closed_sound : (p : Plain) → IsSoundly p → CanComplete (state_of p) → IsSoundly (closed p)
closed_sound p sound can =
    let t : Table = record { rows = (table_at p.tables p.fills).rows; complete = true } in
    record {
      inside = subst (λ n. p.fills < n) (sym (length-set p.tables p.fills t)) sound.inside;
      sizes = sound.sizes ∙ sym (length-set p.tables p.fills t);
      zero_complete = set_each (λ k u. k ≡ 0 → u.complete ≡ true) p.tables p.fills t sound.inside
          (λ k e. subst (λ j. (table_at p.tables j).complete ≡ true) (sym e) sound.zero_complete) (λ e. refl) 0 refl;
      small = set_each (λ k u. length u.rows < 2 ^ 32) p.tables p.fills t sound.inside sound.small (sound.small p.fills);
      once = set_each (λ k u. HasNoRepeats (λ r. r.name) u.rows) p.tables p.fills t sound.inside sound.once (sound.once p.fills);
      formed = set_each (λ s u. (k : ℕ) (r : Row) → slice_get u.rows k ≡ Some r → IsWellFormed (length p.texts.names) (at_place s k) r) p.tables p.fills t sound.inside sound.formed (sound.formed p.fills);
      told = λ finished told. set_each (λ s u. IsBegun u (rows_at finished s)) p.tables p.fills t sound.inside (sound.told finished told)
          (record { first = (sound.told finished told p.fills).first; whole = λ _. can.all finished told });
    }

set-set : (tables : List Table) (s : ℕ) (t u : Table) → set (set tables s t) s u ≡ set tables s u
set-set [] s t u = refl
set-set (x ∷ tables) zero t u = refl
set-set (x ∷ tables) (suc s) t u = ap (λ l. x ∷ l) (set-set tables s t u)

changed_setting : (p : Plain) (t : Table) → (state_of (record { texts = p.texts; tables = set p.tables p.fills t; areas = p.areas; fills = p.fills })).frame.setting ≡ (state_of p).frame.setting
changed_setting p t = ap (λ l. record { texts = p.texts; fills = p.fills; areas = p.areas; others = Some l }) (set-set p.tables p.fills t no_rows)

-- a frame by its parts
frame_is : (f : Frame) (s : Setting) (rows : List Row) (b : Bool) → f.setting ≡ s → f.entered ≡ rows → f.closed ≡ b → f ≡ record { setting = s; entered = rows; closed = b }
frame_is f s rows b setting entered complete =
    ap (λ x. record { setting = x; entered = f.entered; closed = f.closed }) setting
    ∙ ap (λ x. record { setting = s; entered = x; closed = f.closed }) entered
    ∙ ap (λ x. record { setting = s; entered = rows; closed = x }) complete

-- what entering shows
pub filled_entered : (p : Plain) (rows : List Row) → IsSoundly p → CanEnter (state_of p) rows → Entered (state_of p) (state_of (filled p rows)) rows
filled_entered p rows sound can =
    let within = sound.inside in
    let t : Table = record { rows = (table_at p.tables p.fills).rows ++ rows; complete = (table_at p.tables p.fills).complete } in
    let at : table_at (set p.tables p.fills t) p.fills ≡ t = get_or-set_same p.tables p.fills t no_rows within in
    record {
      frame = frame_is _ _ _ _ (changed_setting p t) (ap (λ u. u.rows) at) (ap (λ u. u.complete) at);
      looks = refl;
      seen = set_each (λ k u. IsLater (mark_of (head_of k (table_at p.tables k))) (mark_of (head_of k u))) p.tables p.fills t within (λ k. IsLater-refl _)
          (record { count = omega (arith, length-append (table_at p.tables p.fills).rows rows); complete = λ h. absurd (false≢true (sym can.open_yet ∙ h)) });
      head = ap (λ b. record { count = length (table_at (set p.tables p.fills t) p.fills).rows; complete = b }) (ap (λ u. u.complete) at ∙ can.open_yet);
      elsewhere = λ s other. ap (λ u. record { count = length u.rows; complete = u.complete }) (get_or-set_other p.tables p.fills s t no_rows other);
    }

-- what completing shows
pub closed_completed : (p : Plain) → IsSoundly p → Completed (state_of p) (state_of (closed p))
closed_completed p sound =
    let within = sound.inside in
    let t : Table = record { rows = (table_at p.tables p.fills).rows; complete = true } in
    let at : table_at (set p.tables p.fills t) p.fills ≡ t = get_or-set_same p.tables p.fills t no_rows within in
    record {
      frame = frame_is _ _ _ _ (changed_setting p t) (ap (λ u. u.rows) at) (ap (λ u. u.complete) at);
      looks = refl;
      seen = set_each (λ k u. IsLater (mark_of (head_of k (table_at p.tables k))) (mark_of (head_of k u))) p.tables p.fills t within (λ k. IsLater-refl _)
          (record { count = omega arith; complete = λ h. ap (λ b. record { count = length (table_at p.tables p.fills).rows; complete = b }) (sym h) });
      head = ap (λ b. record { count = length (table_at (set p.tables p.fills t) p.fills).rows; complete = b }) (ap (λ u. u.complete) at);
      elsewhere = λ s other. ap (λ u. record { count = length u.rows; complete = u.complete }) (get_or-set_other p.tables p.fills s t no_rows other);
    }

-- the own scope's table, put back into the others, gives all tables
pub put_back : (tables : List Table) (s : ℕ) → set (set tables s no_rows) s (table_at tables s) ≡ tables
put_back tables s = set-set tables s no_rows (table_at tables s) ∙ set-get_or tables s no_rows

-- a whole list that was lent and written
pub lent_whole : (n : ℕ) (kept new : List TableWithRoom) → n ≡ length kept → length new ≡ length kept → take n (new ++ drop (length new) kept) ≡ new
lent_whole n kept new size same = grind (arith, common_steps)

-- rooms that have grown have the areas
pub roomy : (p : Plain) (q : Plain) (rooms new : List ℕ) → IsHoused p rooms → IsSoundly q → q.areas ≡ p.areas → ((s : ℕ) → get_or rooms s 0 ≤ get_or new s 0) → IsHoused q new
roomy p q rooms new housed sound same grow =
    record {
      sound = sound;
      room = λ s. let a : get_or q.areas s 0 ≡ get_or p.areas s 0 = ap (λ l. get_or l s 0) same in omega (arith, a, housed.room s, grow s);
      narrow = λ s. let a : get_or q.areas s 0 ≡ get_or p.areas s 0 = ap (λ l. get_or l s 0) same in omega (arith, a, housed.narrow s);
    }

-- tables and rooms of what a lent vector of tables became
housed_lent : (p q : Plain) (kept lent new : List TableWithRoom) (n : ℕ) → IsHoused p (rooms_in kept) → IsSoundly q → q.texts ≡ p.texts → q.areas ≡ p.areas → q.fills ≡ p.fills → lent ≡ kept → n ≡ length kept → length new ≡ length lent → tables_in new ≡ q.tables → ((k : ℕ) → get_or (rooms_in lent) k 0 ≤ get_or (rooms_in new) k 0) → IsHoused (record { texts = p.texts; tables = tables_in (take n (new ++ drop (length new) kept)); areas = p.areas; fills = p.fills }) (rooms_in (take n (new ++ drop (length new) kept)))
housed_lent p q kept lent new n housed sound texts areas fills is size same tables grow =
    let whole : take n (new ++ drop (length new) kept) ≡ new = lent_whole n kept new size (same ∙ ap length is) in
    let q_is : q ≡ record { texts = p.texts; tables = tables_in new; areas = p.areas; fills = p.fills } =
    ap (λ x. record { texts = x; tables = q.tables; areas = q.areas; fills = q.fills }) texts
    ∙ ap (λ x. record { texts = p.texts; tables = x; areas = q.areas; fills = q.fills }) (sym tables)
    ∙ ap (λ x. record { texts = p.texts; tables = tables_in new; areas = x; fills = q.fills }) areas
    ∙ ap (λ x. record { texts = p.texts; tables = tables_in new; areas = p.areas; fills = x }) fills in
    let grown : (k : ℕ) → get_or (rooms_in kept) k 0 ≤ get_or (rooms_in new) k 0 = subst (λ l. (k : ℕ) → get_or (rooms_in l) k 0 ≤ get_or (rooms_in new) k 0) is grow in
    let made : IsHoused q (rooms_in new) = roomy p q (rooms_in kept) (rooms_in new) housed sound areas grown in
    subst (λ l. IsHoused (record { texts = p.texts; tables = tables_in l; areas = p.areas; fills = p.fills }) (rooms_in l)) (sym whole)
    (subst (λ r. IsHoused r (rooms_in new)) q_is made)

pub put_housed : (p : Plain) (rows : List Row) (kept lent new : List TableWithRoom) (n : ℕ) → IsHoused p (rooms_in kept) → p.tables ≡ tables_in kept → CanEnter (state_of p) rows → lent ≡ kept → n ≡ length kept → length new ≡ length lent → tables_in new ≡ with_rows (tables_in lent) p.fills rows → ((k : ℕ) → get_or (rooms_in lent) k 0 ≤ get_or (rooms_in new) k 0) → IsHoused (record { texts = p.texts; tables = tables_in (take n (new ++ drop (length new) kept)); areas = p.areas; fills = p.fills }) (rooms_in (take n (new ++ drop (length new) kept)))
put_housed p rows kept lent new n housed held can is size same tables grow =
    housed_lent p (filled p rows) kept lent new n housed (filled_sound p rows housed.narrow housed.sound can) refl refl refl is size same
    (tables ∙ ap (λ t. with_rows t p.fills rows) (ap tables_in is ∙ sym held)) grow

pub finish_housed : (p : Plain) (kept lent new : List TableWithRoom) (n : ℕ) → IsHoused p (rooms_in kept) → p.tables ≡ tables_in kept → CanComplete (state_of p) → lent ≡ kept → n ≡ length kept → length new ≡ length lent → tables_in new ≡ completed (tables_in lent) p.fills → rooms_in new ≡ rooms_in lent → IsHoused (record { texts = p.texts; tables = tables_in (take n (new ++ drop (length new) kept)); areas = p.areas; fills = p.fills }) (rooms_in (take n (new ++ drop (length new) kept)))
finish_housed p kept lent new n housed held can is size same tables rooms =
    housed_lent p (closed p) kept lent new n housed (closed_sound p housed.sound can) refl refl refl is size same
    (tables ∙ ap (λ t. completed t p.fills) (ap tables_in is ∙ sym held)) (λ k. let e : get_or (rooms_in new) k 0 ≡ get_or (rooms_in lent) k 0 = ap (λ l. get_or l k 0) rooms in omega (arith, e))

no_row : (m s k : ℕ) (r : Row) → slice_get (table_at (replicate m no_rows) s).rows k ≡ Some r → ⊥
no_row zero s k r e = absurd (cc)
no_row (suc m) zero k r e = absurd (cc)
no_row (suc m) (suc s) k r e = no_row m s k r e

-- what holds of scope 0 and of scopes with no rows holds of each
first_each : (P : ℕ → Table → Type 0) (m : ℕ) → P 0 standard_table → ((s : ℕ) → P s no_rows) → (s : ℕ) → P s (table_at (first_tables m) s)
first_each P m zero_scope none zero = zero_scope
first_each P m zero_scope none (suc s) = go m s
  where
    at : (m s : ℕ) → table_at (replicate m no_rows) s ≡ no_rows
    at zero s = refl
    at (suc m) zero = refl
    at (suc m) (suc s) = at m s

    go : (m s : ℕ) → P (suc s) (table_at (replicate m no_rows) s)
    go m s = subst (λ t. P (suc s) t) (sym (at m s)) (none (suc s))

-- scope 0 with all its rows and the others empty: all that holds of tables holds
pub started_sound : (texts : UnitTexts) (sizes : List ℕ) → IsUnit texts → 2 ≤ length sizes → IsSoundly (started texts sizes)
started_sound texts sizes unit several =
    let m = length sizes - 1 in
    let count : length (first_tables m) ≡ length sizes = (let n : length (replicate m no_rows) ≡ m = length-replicate m no_rows in omega (arith, n, several)) in
    record {
      inside = omega (arith, count, several);
      sizes = sym count;
      zero_complete = refl;
      small = first_each (λ s t. length t.rows < 2 ^ 32) m (lit< tt) (λ s. lit< tt);
      once = first_each (λ s t. HasNoRepeats (λ r. r.name) t.rows) m HasNoRepeats-standard (λ s. HasNoRepeats-test (λ r. r.name) [] refl);
      formed = first_each (λ s t. (k : ℕ) (r : Row) → slice_get t.rows k ≡ Some r → IsWellFormed (length texts.names) (at_place s k) r) m
          (IsWellFormed-standard texts.names unit.standard) (λ s k r e. absurd (cc));
      told = λ finished told. first_each (λ s t. IsBegun t (rows_at finished s)) m
          (subst (λ rows. IsBegun standard_table rows) (sym (finished-standard texts finished told)) (record { first = IsPrefixOf-refl standard_rows; whole = λ _. refl }))
          (λ s. record { first = record { rest = rows_at finished s; joined = refl }; whole = λ done. absurd (false≢true done) });
    }

-- the code's vectors, when scope 0 has its rows and is complete
pub started_tables : (sizes : List ℕ) (tables : List Table) → 2 ≤ length sizes → tables ≡ replicate (length sizes) no_rows → completed (with_rows tables 0 standard_rows) 0 ≡ first_tables (length sizes - 1)
started_tables [] tables several is = absurd (omega (arith, several))
started_tables (n ∷ sizes) tables several is = rw is (go sizes)
  where
    go : (sizes : List ℕ) → completed (with_rows (replicate (length (n ∷ sizes)) no_rows) 0 standard_rows) 0 ≡ first_tables (length (n ∷ sizes) - 1)
    go sizes = let same : length (n ∷ sizes) - 1 ≡ length sizes = omega arith in rw same refl

pub started_housed : (texts : UnitTexts) (sizes : List ℕ) (kept : List TableWithRoom) → IsUnit texts → 2 ≤ length sizes → ((s : ℕ) → get_or sizes s 0 < 2 ^ 32) → tables_in kept ≡ first_tables (length sizes - 1) → ((s : ℕ) → get_or sizes s 0 ≤ get_or (rooms_in kept) s 0) → IsHoused (record { texts = texts; tables = tables_in kept; areas = sizes; fills = 1 }) (rooms_in kept)
started_housed texts sizes kept unit several narrow tables rooms =
    subst (λ t. IsHoused (record { texts = texts; tables = t; areas = sizes; fills = 1 }) (rooms_in kept)) (sym tables)
    (record { sound = started_sound texts sizes unit several; room = rooms; narrow = narrow })

-- another scope that has an area is filled
pub moved_housed : (p : Plain) (s : ℕ) (rooms : List ℕ) → IsHoused p rooms → s < length p.areas → IsHoused (moved p s) rooms
moved_housed p s rooms h there =
    let sound = h.sound in
    record {
      sound = record {
        inside = subst (λ n. s < n) sound.sizes there;
        sizes = sound.sizes;
        zero_complete = sound.zero_complete;
        small = sound.small;
        once = sound.once;
        formed = sound.formed;
        told = sound.told;
      };
      room = h.room;
      narrow = h.narrow;
    }
