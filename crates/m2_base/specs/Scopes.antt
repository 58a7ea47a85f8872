-- The calls of Scopes: when each may be made, and what it leaves and answers.
use Rattle.std.specs.Prelude.{◌≡◌, ◌≢◌, ◌⊎◌, ℕ, ◌+◌, ◌<◌, ◌≤◌, true, false, List, [], ◌∷◌, ◌++◌, Option, Some, None}
use Rattle.std.specs.Prelude.{length, map, slice_get, slice_index}
use Rattle.m2_base.specs.Finished.{WhereFinished}
use Rattle.m2_base.specs.Keys.{Member, field_before, one_thread_field, row_key}
use Rattle.m2_base.specs.Lists.{IsPrefixOf, IsIn, Each, WhereKept, HasNoRepeats}
use Rattle.m2_base.specs.Rows.{Row, Place, at_place, IsWellFormed}
use Rattle.m2_base.specs.States.{State, Look, IsLater, Keeps, mark_of, texts_of, fills_of, areas_of, others_of}
use Rattle.m2_base.specs.States.{tables_of}
use Rattle.m2_base.specs.Tables.{Lacks, Settles, lookup, one_thread, one_thread_row, reply_of_heads, rows_at}
use Rattle.m2_base.specs.declared.replies.Ask.{Ask}
use Rattle.m2_base.specs.declared.replies.Ask.TheVariants.{Known, DontKnowYet as Waiting}
use Rattle.m2_base.specs.declared.replies.Head.{Head}
use Rattle.m2_base.specs.declared.replies.Reply.{Reply}
use Rattle.m2_base.specs.declared.replies.Reply.TheVariants.{Found, Absent, DontKnowYet}
use Rattle.m2_base.specs.declared.limits.TheConstants.{LONGEST_CHAIN}

-- ** Search

-- The chain is short, its scopes exist, and the name is one.
pub record CanSearch (st : State) (chain : List ℕ) (name : ℕ) : Type 0 where
  pub short : length chain ≤ LONGEST_CHAIN
  pub exist : Each (λ s. s < length (areas_of st)) chain
  pub named : name ≢ 0

-- a head that this call loaded
pub record IsLoaded (old new : State) (h : Head) : Type 0 where
  pub from : IsLater (old.seen h.scope) (mark_of h)
  pub upto : IsLater (mark_of h) (new.seen h.scope)

-- a search ends at this head
abbrev pub EndsAt : Head → Reply → Type 0
EndsAt h (Found p r) = (p.scope ≡ h.scope) × (p.ordinal < h.count)
EndsAt h Absent = ⊥
EndsAt h (DontKnowYet k) = (k ≡ h) × (h.complete ≡ false)

-- The heads are those of the chain's first scopes, in order. All but the last are complete, and the reply comes from
-- the last; it is Absent where all scopes of the chain have been tried.
abbrev pub IsTaken : List ℕ → List Head → Reply → Type 0
IsTaken [] heads reply = (heads ≡ []) × (reply ≡ Absent)
IsTaken (s ∷ chain) [] reply = ⊥
IsTaken (s ∷ chain) (h ∷ heads) reply =
    (h.scope ≡ s) × (((h.complete ≡ true) × IsTaken chain heads reply) ⊎ ((heads ≡ []) × EndsAt h reply))

abbrev pub look_of : (at name : ℕ) → List ℕ → List Head → Reply → Look
look_of at name chain heads reply = record { at = at; name = name; chain = chain; heads = heads; reply = reply }

-- a search of an empty chain adds no look
abbrev pub looks_of : (at name : ℕ) → List ℕ → List Head → Reply → List Look
looks_of at name [] heads reply = []
looks_of at name (s ∷ chain) heads reply = look_of at name (s ∷ chain) heads reply ∷ []

-- a row that is shown at its place: it is well formed there, and where the scope is the own one, it is the row entered
pub record IsShown (st : State) (p : Place) (r : Row) : Type 0 where
  pub formed : IsWellFormed (length (texts_of st).names) p r
  pub counted : p.ordinal < (st.seen p.scope).count
  pub own : p.scope ≡ fills_of st → slice_get st.frame.entered p.ordinal ≡ Some r

pub record IsFound (new : State) (chain : List ℕ) (name : ℕ) (p : Place) (r : Row) : Type 0 where
  pub on : IsIn p.scope chain
  pub named : r.name ≡ name
  pub shown : IsShown new p r

pub record IsAbsent (new : State) (chain : List ℕ) (name : ℕ) : Type 0 where
  pub complete : Each (λ s. (new.seen s).complete ≡ true) chain
  pub own : IsIn (fills_of new) chain → (new.frame.closed ≡ true) × Lacks new.frame.entered name

-- A head at which a search or a fetch stopped: it is incomplete, and this call loaded it. Where the scope is the own
-- one, it tells what is entered.
pub record StopsAt (old new : State) (h : Head) : Type 0 where
  pub incomplete : h.complete ≡ false
  pub loaded : IsLoaded old new h
  pub own : h.scope ≡ fills_of new → (new.frame.closed ≡ false) × (h.count ≡ length new.frame.entered)

pub record IsUnknown (old new : State) (chain : List ℕ) (name : ℕ) (h : Head) : Type 0 where
  pub on : IsIn h.scope chain
  pub stops : StopsAt old new h
  pub own : h.scope ≡ fills_of new → Lacks new.frame.entered name

abbrev pub Replied : State → State → List ℕ → ℕ → Reply → Type 0
Replied old new chain name (Found p r) = IsFound new chain name p r
Replied old new chain name Absent = IsAbsent new chain name
Replied old new chain name (DontKnowYet h) = IsUnknown old new chain name h

-- A search loads `heads`, each in this call, and its reply comes from the last; it sees nothing of other scopes. Where
-- the unit has finished rows, the reply is that of those which these heads show, and Found and Absent are those of
-- all. Where nobody else changes the tables, it is what one thread answers.
pub record Searched (old new : State) (at : ℕ) (chain : List ℕ) (name : ℕ) (reply : Reply) : Type 0 where
  pub heads : List Head
  pub taken : IsTaken chain heads reply
  pub loaded : Each (IsLoaded old new) heads
  pub keeps : Keeps old new (looks_of at name chain heads reply)
  pub elsewhere : (s : ℕ) → (IsIn s (map (λ h. h.scope) heads) → ⊥) → new.seen s ≡ old.seen s
  pub says : Replied old new chain name reply
  pub lawful : WhereFinished (texts_of old) (λ tables. reply ≡ reply_of_heads tables heads name)
  pub settled : WhereFinished (texts_of old) (λ tables. Settles reply (lookup tables chain name))
  pub alone : WhereKept (others_of old) (λ others. reply ≡ one_thread (tables_of old others) chain name)

-- ** Fetch

-- the scope exists
abbrev pub CanFetch : State → Place → Type 0
CanFetch st p = p.scope < length (areas_of st)

-- the place is past the end of its scope, for good
pub record IsPast (old new : State) (p : Place) : Type 0 where
  pub complete : (new.seen p.scope).complete ≡ true
  pub short : (new.seen p.scope).count ≤ p.ordinal
  pub own : p.scope ≡ fills_of new → (new.frame.closed ≡ true) × (length new.frame.entered ≤ p.ordinal)
  pub told : WhereFinished (texts_of old) (λ tables. length (rows_at tables p.scope) ≤ p.ordinal)

pub record IsFetched (old new : State) (p : Place) (r : Row) : Type 0 where
  pub shown : IsShown new p r
  pub told : WhereFinished (texts_of old) (λ tables. slice_get (rows_at tables p.scope) p.ordinal ≡ Some r)

pub record IsNotYet (old new : State) (p : Place) (h : Head) : Type 0 where
  pub on : h.scope ≡ p.scope
  pub short : h.count ≤ p.ordinal
  pub stops : StopsAt old new h

abbrev pub Fetches : State → State → Place → Ask (Option Row) → Type 0
Fetches old new p (Known (Some r)) = IsFetched old new p r
Fetches old new p (Known None) = IsPast old new p
Fetches old new p (Waiting h) = IsNotYet old new p h

-- A fetch loads the head of its scope alone. Where nobody else changes the tables, it gives what one thread answers.
pub record Fetched (old new : State) (p : Place) (answer : Ask (Option Row)) : Type 0 where
  pub keeps : Keeps old new []
  pub elsewhere : (s : ℕ) → s ≢ p.scope → new.seen s ≡ old.seen s
  pub says : Fetches old new p answer
  pub alone : WhereKept (others_of old) (λ others. answer ≡ one_thread_row (tables_of old others) p)

-- ** Select

-- The first field of this name before the row of its record, which is the one at the place p: a row that is shown, and
-- its ordinal.
pub record IsSelected (old new : State) (p : Place) (name : ℕ) (hit : ℕ × Row) : Type 0 where
  pub before : hit.0 < p.ordinal
  pub keyed : row_key hit.1 ≡ Some (Member p.ordinal name)
  pub shown : IsShown new (at_place p.scope hit.0) hit.1
  pub own : p.scope ≡ fills_of new → field_before new.frame.entered p.ordinal name ≡ Some hit
  pub told : WhereFinished (texts_of old) (λ tables. field_before (rows_at tables p.scope) p.ordinal name ≡ Some hit)

-- there is no such field, for good
pub record LacksField (old new : State) (p : Place) (name : ℕ) : Type 0 where
  pub own : p.scope ≡ fills_of new → field_before new.frame.entered p.ordinal name ≡ None
  pub told : WhereFinished (texts_of old) (λ tables. field_before (rows_at tables p.scope) p.ordinal name ≡ None)

abbrev pub Selects : State → State → Place → (name : ℕ) → Ask (Option (ℕ × Row)) → Type 0
Selects old new p name (Known (Some hit)) = IsSelected old new p name hit
Selects old new p name (Known None) = LacksField old new p name
Selects old new p name (Waiting h) = IsNotYet old new p h

-- A selection loads the head of its scope alone, and waits where a fetch of the record's row would. Where nobody else
-- changes the tables, it gives what one thread answers.
pub record Selected (old new : State) (p : Place) (name : ℕ) (answer : Ask (Option (ℕ × Row))) : Type 0 where
  pub keeps : Keeps old new []
  pub elsewhere : (s : ℕ) → s ≢ p.scope → new.seen s ≡ old.seen s
  pub says : Selects old new p name answer
  pub alone : WhereKept (others_of old) (λ others. answer ≡ one_thread_field (tables_of old others) p name)

-- ** Enter and complete

-- The scope isn't complete and has room; the rows are well formed at their places, their names are new and differ, and
-- they are the next finished rows, if the unit has such.
pub record CanEnter (st : State) (rows : List Row) : Type 0 where
  pub open_yet : st.frame.closed ≡ false
  pub room : length st.frame.entered + length rows ≤ slice_index (areas_of st) (fills_of st)
  pub formed : (k : ℕ) (r : Row) → slice_get rows k ≡ Some r
      → IsWellFormed (length (texts_of st).names) (at_place (fills_of st) (length st.frame.entered + k)) r
  pub once : HasNoRepeats (λ r. r.name) (st.frame.entered ++ rows)
  pub next : WhereFinished (texts_of st)
      (λ tables. IsPrefixOf (st.frame.entered ++ rows) (rows_at tables (fills_of st)))

pub record Entered (old new : State) (rows : List Row) : Type 0 where
  pub frame : new.frame
      ≡ record { setting = old.frame.setting; entered = old.frame.entered ++ rows; closed = old.frame.closed }
  pub looks : new.looks ≡ old.looks
  pub seen : (s : ℕ) → IsLater (old.seen s) (new.seen s)
  pub head : new.seen (fills_of old) ≡ record { count = length new.frame.entered; complete = false }
  pub elsewhere : (s : ℕ) → s ≢ fills_of old → new.seen s ≡ old.seen s

-- The scope isn't complete, and all its finished rows are entered, if the unit has such.
pub record CanComplete (st : State) : Type 0 where
  pub open_yet : st.frame.closed ≡ false
  pub all : WhereFinished (texts_of st) (λ tables. st.frame.entered ≡ rows_at tables (fills_of st))

pub record Completed (old new : State) : Type 0 where
  pub frame : new.frame ≡ record { setting = old.frame.setting; entered = old.frame.entered; closed = true }
  pub looks : new.looks ≡ old.looks
  pub seen : (s : ℕ) → IsLater (old.seen s) (new.seen s)
  pub head : new.seen (fills_of old) ≡ record { count = length new.frame.entered; complete = true }
  pub elsewhere : (s : ℕ) → s ≢ fills_of old → new.seen s ≡ old.seen s
