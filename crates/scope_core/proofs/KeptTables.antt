-- tables and rooms of what the code keeps
use Rattle.std.proofs.Common.{◌≡◌, ℕ, ◌<◌, ◌≤◌, ◌+◌, ◌^◌, List, [], ◌∷◌, ◌++◌, length, get_or, refl, sym, ◌∙◌, ap, subst, arith, suc, zero, replicate, lit<, length-append, Option}
use Rattle.std.specs.Prelude.{slice_get}
use Rattle.std.proofs.Math.ListN.{set}
use Rattle.std.proofs.lemmas.List.{length-map, map-set, map-append}
use Rattle.m2_base.specs.declared.rows.Row.{Row}
use Rattle.m2_base.specs.Tables.{Table, fetched_or, table_at, no_rows}
use Rattle.scope_core.specs.Kept.{TableWithRoom, tables_in, rooms_in, longer, with_rows}

pub at_kept : (kept : List TableWithRoom) (i : ℕ) (d : TableWithRoom) → i < length kept → table_at (tables_in kept) i ≡ (get_or kept i d).table
at_kept [] i d h = absurd (omega arith)
at_kept (k ∷ kept) zero d h = refl
at_kept (k ∷ kept) (suc i) d h = at_kept kept i d (omega arith)

pub room_at : (kept : List TableWithRoom) (i : ℕ) (d : TableWithRoom) → i < length kept → get_or (rooms_in kept) i 0 ≡ (get_or kept i d).room
room_at [] i d h = absurd (omega arith)
room_at (k ∷ kept) zero d h = refl
room_at (k ∷ kept) (suc i) d h = room_at kept i d (omega arith)

pub set_kept : (kept : List TableWithRoom) (i : ℕ) (k : TableWithRoom) (t : Table) → k.table ≡ t → tables_in (set kept i k) ≡ set (tables_in kept) i t
set_kept kept i k t same = map-set (λ s. s.table) kept i k ∙ ap (λ u. set (tables_in kept) i u) same

-- a scope's table is as before
pub set_kept_same : (kept : List TableWithRoom) (i : ℕ) (k d : TableWithRoom) → i < length kept → k.table ≡ (get_or kept i d).table → tables_in (set kept i k) ≡ tables_in kept
set_kept_same [] i k d h same = absurd (omega arith)
set_kept_same (x ∷ kept) zero k d h same = ap (λ t. t ∷ tables_in kept) same
set_kept_same (x ∷ kept) (suc i) k d h same = ap (λ t. x.table ∷ t) (set_kept_same kept i k d (omega arith) same)

-- a scope's room hasn't shrunk
pub rooms_grow : (kept : List TableWithRoom) (i : ℕ) (k d : TableWithRoom) → i < length kept → (get_or kept i d).room ≤ k.room → (j : ℕ) → get_or (rooms_in kept) j 0 ≤ get_or (rooms_in (set kept i k)) j 0
rooms_grow [] i k d h le j = absurd (omega arith)
rooms_grow (x ∷ kept) zero k d h le zero = le
rooms_grow (x ∷ kept) zero k d h le (suc j) = omega arith
rooms_grow (x ∷ kept) (suc i) k d h le zero = omega arith
rooms_grow (x ∷ kept) (suc i) k d h le (suc j) = rooms_grow kept i k d (omega arith) le j

pub rooms_same : (kept : List TableWithRoom) (i : ℕ) (k d : TableWithRoom) → i < length kept → (get_or kept i d).room ≡ k.room → rooms_in (set kept i k) ≡ rooms_in kept
rooms_same [] i k d h e = absurd (omega arith)
rooms_same (x ∷ kept) zero k d h e = ap (λ t. t ∷ rooms_in kept) (sym e)
rooms_same (x ∷ kept) (suc i) k d h e = ap (λ t. x.room ∷ t) (rooms_same kept i k d (omega arith) e)

-- rows were added to a scope
pub add_kept : (kept : List TableWithRoom) (i : ℕ) (k d : TableWithRoom) (rows : List Row) → i < length kept → k.table ≡ longer (get_or kept i d).table rows → tables_in (set kept i k) ≡ with_rows (tables_in kept) i rows
add_kept kept i k d rows h added = set_kept kept i k _ (added ∙ ap (λ t. longer t rows) (sym (at_kept kept i d h)))

pub small_tables : (n : ℕ) (kept : List TableWithRoom) → tables_in kept ≡ replicate n no_rows → (s : ℕ) → length (table_at (tables_in kept) s).rows < 2 ^ 32
small_tables n kept same s = subst (λ t. length (table_at t s).rows < 2 ^ 32) (sym same) (go n s)
  where
    go : (n s : ℕ) → length (table_at (replicate n no_rows) s).rows < 2 ^ 32
    go zero s = lit< tt
    go (suc n) zero = lit< tt
    go (suc n) (suc s) = go n s

-- these scopes are empty and have room for so many rows each
pub record HaveRooms (sizes : List ℕ) (kept : List TableWithRoom) : Type 0 where
  pub count : length kept ≡ length sizes
  pub empty : tables_in kept ≡ replicate (length sizes) no_rows
  pub rooms : (s : ℕ) → get_or sizes s 0 ≤ get_or (rooms_in kept) s 0

replicate-suc : {A : Type 0} (n : ℕ) (x : A) → replicate n x ++ x ∷ [] ≡ replicate (n + 1) x
replicate-suc zero x = refl
replicate-suc (suc n) x =
    let same : suc n + 1 ≡ suc (n + 1) = omega arith in
    rw same (ap (λ t. x ∷ t) (replicate-suc n x))

-- one more scope with no rows
pub empty_more : (kept all : List TableWithRoom) (k : TableWithRoom) (n : ℕ) → all ≡ kept ++ k ∷ [] → tables_in kept ≡ replicate n no_rows → k.table ≡ no_rows
    → tables_in all ≡ replicate (n + 1) no_rows
empty_more kept all k n is empty none =
    ap tables_in is ∙ map-append (λ s. s.table) kept (k ∷ []) ∙ ap (λ t. tables_in kept ++ t ∷ []) none ∙ ap (λ t. t ++ no_rows ∷ []) empty
    ∙ replicate-suc n no_rows

more_rooms : (sizes : List ℕ) (kept : List TableWithRoom) (size : ℕ) (k : TableWithRoom) → length kept ≡ length sizes → ((s : ℕ) → get_or sizes s 0 ≤ get_or (rooms_in kept) s 0) → size ≤ k.room → (s : ℕ) → get_or (sizes ++ size ∷ []) s 0 ≤ get_or (rooms_in (kept ++ k ∷ [])) s 0
more_rooms [] [] size k count rooms le zero = le
more_rooms [] [] size k count rooms le (suc s) = omega arith
more_rooms [] (x ∷ kept) size k count rooms le s = absurd (omega (arith, count))
more_rooms (n ∷ sizes) [] size k count rooms le s = absurd (omega (arith, count))
more_rooms (n ∷ sizes) (x ∷ kept) size k count rooms le zero = rooms zero
more_rooms (n ∷ sizes) (x ∷ kept) size k count rooms le (suc s) = more_rooms sizes kept size k (omega (arith, count)) (λ j. rooms (suc j)) le s

pub HaveRooms-none : HaveRooms [] []
HaveRooms-none = record { count = refl; empty = refl; rooms = λ s. omega arith }

-- one more scope
pub HaveRooms-more : (sizes : List ℕ) (kept : List TableWithRoom) (size : ℕ) (k : TableWithRoom) → HaveRooms sizes kept → k.table ≡ no_rows → size ≤ k.room → HaveRooms (sizes ++ size ∷ []) (kept ++ k ∷ [])
HaveRooms-more sizes kept size k h none le =
    record {
      count = omega (arith, h.count, length-append sizes (size ∷ []), length-append kept (k ∷ []));
      empty = map-append (λ s. s.table) kept (k ∷ []) ∙ ap (λ t. tables_in kept ++ t ∷ []) none ∙ ap (λ t. t ++ no_rows ∷ []) h.empty
          ∙ replicate-suc (length sizes) no_rows ∙ ap (λ n. replicate n no_rows) (sym (length-append sizes (size ∷ [])));
      rooms = more_rooms sizes kept size k h.count h.rooms le;
    }

-- a scope of a table is there in what was lent
pub within_lent : (kept lent : List TableWithRoom) (s : ℕ) → lent ≡ kept → s < length (tables_in kept) → s < length lent
within_lent kept lent s is there = subst (λ n. s < n) (sym (ap length is ∙ sym (length-map kept (λ k. k.table)))) there

-- a scope that has an area is there in what was lent
pub lent_there : (kept lent : List TableWithRoom) (areas : List ℕ) (s : ℕ) → lent ≡ kept → length areas ≡ length (tables_in kept) → s < length areas → s < length lent
lent_there kept lent areas s is sizes there = within_lent kept lent s is (subst (λ n. s < n) sizes there)

-- a row that is kept is that of one thread
pub row_kept : (kept : List TableWithRoom) (i ordinal : ℕ) (d : TableWithRoom) (o : Option Row) → i < length kept → d ≡ get_or kept i d
    → o ≡ slice_get d.table.rows ordinal
    → fetched_or i d.table o ≡ fetched_or i (table_at (tables_in kept) i) (slice_get (table_at (tables_in kept) i).rows ordinal)
row_kept kept i ordinal d o there is e =
    let same = at_kept kept i d there ∙ ap (λ k. k.table) (sym is) in
    ap (fetched_or i d.table) e ∙ ap (λ t. fetched_or i t (slice_get t.rows ordinal)) (sym same)
