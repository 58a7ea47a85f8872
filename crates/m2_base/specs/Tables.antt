-- Tables, and what one thread answers over them.
use Rattle.std.specs.Prelude.{◌≡◌, ℕ, ◌+◌, ◌==◌, Bool, false, List, [], ◌∷◌, Option, Some, None, length, take}
use Rattle.std.specs.Prelude.{slice_get, slice_index_or, if◌then◌else◌}
use Rattle.m2_base.specs.Rows.{Row, Place, at_place}
use Rattle.m2_base.specs.declared.replies.Ask.{Ask}
use Rattle.m2_base.specs.declared.replies.Ask.TheVariants.{Known, DontKnowYet as Waiting}
use Rattle.m2_base.specs.declared.replies.Head.{Head}
use Rattle.m2_base.specs.declared.replies.Reply.{Reply}
use Rattle.m2_base.specs.declared.replies.Reply.TheVariants.{Found, Absent, DontKnowYet}

-- the rows of a scope and whether there will be no more
pub record Table : Type 0 where
  pub rows : List Row
  pub complete : Bool

abbrev pub no_rows : Table
no_rows = record { rows = []; complete = false }

abbrev pub table_at : List Table → ℕ → Table
table_at tables s = slice_index_or tables s no_rows

abbrev pub head_of : ℕ → Table → Head
head_of s t = record { scope = s; count = length t.rows; complete = t.complete }

-- the first row of this name, with its ordinal, where the first of the rows has the ordinal n
abbrev pub first_named : (name : ℕ) → List Row → (n : ℕ) → Option (ℕ × Row)
first_named name [] n = None
first_named name (r ∷ rows) n = if r.name == name then Some (n, r) else first_named name rows (n + 1)

-- no row has this name
abbrev pub Lacks : List Row → ℕ → Type 0
Lacks rows name = first_named name rows 0 ≡ None

abbrev pub rows_at : List (List Row) → ℕ → List Row
rows_at finished s = slice_index_or finished s []

abbrev pub found_or : ℕ → Option (ℕ × Row) → Option (Place × Row) → Option (Place × Row)
found_or s (Some hit) rest = Some (at_place s hit.0, hit.1)
found_or s None rest = rest

-- the row that a name stands for: the first of that name in the first scope of the chain that has one
abbrev pub lookup : List (List Row) → (chain : List ℕ) → (name : ℕ) → Option (Place × Row)
lookup finished [] name = None
lookup finished (s ∷ chain) name = found_or s (first_named name (rows_at finished s) 0) (lookup finished chain name)

-- the reply from a head and what its rows have of the name; where it is complete and they lack it, the rest answers
abbrev pub reply_or : Head → Option (ℕ × Row) → Reply → Reply
reply_or h (Some hit) rest = Found (at_place h.scope hit.0) hit.1
reply_or h None rest = if h.complete then rest else DontKnowYet h

-- what one thread answers
abbrev pub one_thread : List Table → (chain : List ℕ) → (name : ℕ) → Reply
one_thread tables [] name = Absent
one_thread tables (s ∷ chain) name =
    reply_or (head_of s (table_at tables s)) (first_named name (table_at tables s).rows 0)
    (one_thread tables chain name)

-- the row that stands at a place of a scope, or why there is none
abbrev pub fetched_or : ℕ → Table → Option Row → Ask (Option Row)
fetched_or s t (Some r) = Known (Some r)
fetched_or s t None = if t.complete then Known None else Waiting (head_of s t)

-- what one thread answers of a place
abbrev pub one_thread_row : List Table → Place → Ask (Option Row)
one_thread_row tables p =
    fetched_or p.scope (table_at tables p.scope) (slice_get (table_at tables p.scope).rows p.ordinal)

-- what the finished rows answer of which these heads tell how many are shown
abbrev pub reply_of_heads : List (List Row) → List Head → (name : ℕ) → Reply
reply_of_heads finished [] name = Absent
reply_of_heads finished (h ∷ heads) name =
    reply_or h (first_named name (take h.count (rows_at finished h.scope)) 0) (reply_of_heads finished heads name)

-- a found row is this one, and an absent name isn't there; where nothing is known, nothing is said
abbrev pub Settles : Reply → Option (Place × Row) → Type 0
Settles (Found p r) there = there ≡ Some (p, r)
Settles Absent there = there ≡ None
Settles (DontKnowYet h) there = Unit {0}
