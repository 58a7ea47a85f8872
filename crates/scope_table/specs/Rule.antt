-- What holds between any two steps, of the words of a table and of what all seats know.
use Rattle.std.specs.Prelude.{◌≡◌, ◌≢◌, ℕ, zero, suc, ◌+◌, ◌-◌, ◌*◌, ◌/◌, ◌%◌, ◌<◌, ◌≤◌, eqb, Bool, true, false, List}
use Rattle.std.specs.Prelude.{[], ◌∷◌, ◌++◌, Some, None, length, slice_get, slice_index, slice_index_or, take}
use Rattle.std.specs.Prelude.{replicate}
use mathlib.Core.Option.{some}
use lib.ListN.{get_elem?}
use Rattle.atomic_table.specs.Table.{State}
use Rattle.m2_base.specs.Finished.{WhereFinished}
use Rattle.m2_base.specs.Lists.{Each, HasNoRepeats}
use Rattle.m2_base.specs.declared.rows.Row.{Row}
use Rattle.m2_base.specs.Rows.{at_place, IsWellFormed}
use Rattle.m2_base.specs.Scopes.{IsTaken}
use Rattle.m2_base.specs.Tables.{first_named, reply_or, rows_at as finished_at}
use Rattle.m2_base.specs.Units.{UnitTexts}
use Rattle.m2_base.specs.declared.replies.Head.{Head}
use Rattle.m2_base.specs.declared.replies.Reply.{Reply}
use Rattle.m2_base.specs.declared.replies.Reply.TheVariants.{Absent}
use Rattle.scope_table.specs.Cells.{IsIndexed, HasOneEach, Stays}
use Rattle.scope_table.specs.Rows.{rows_at, words_at, Stand}
use Rattle.scope_table.specs.declared.view.Shown.{Shown}
use Rattle.scope_table.specs.declared.view.Look.{Look}
use Rattle.scope_table.specs.declared.view.About.{About}
use Rattle.scope_table.specs.declared.view.View.{View}

-- ** Where the words lie

abbrev pub scopes : About → ℕ
scopes a = length a.bases.value - 1

-- where the words of scope j begin
abbrev pub base : About → ℕ → ℕ
base a j = slice_index a.bases.value j

-- where its cells begin, and how many there are
abbrev pub mid : About → ℕ → ℕ
mid a j = slice_index a.mids.value j

abbrev pub width : About → ℕ → ℕ
width a j = base a (suc j) - mid a j

abbrev pub texts_in : About → UnitTexts
texts_in a = a.texts.value

-- the heads come first, and the scopes lie behind each other
pub record IsLaid (a : About) : Type 0 where
  pub some_scope : 0 < scopes a
  pub first : scopes a ≤ base a 0
  pub up : (i j : ℕ) → i ≤ j → j ≤ scopes a → base a i ≤ base a j

-- ** The tables that the words stand for. A head is the word `2 * count + complete`.

abbrev pub is_odd : ℕ → Bool
is_odd n = eqb (n % 2) 1

-- scope j
abbrev pub table_at : About → List ℕ → ℕ → Shown
table_at a ws j =
    record {
      rows = rows_at ws (base a j) (slice_index ws j / 2);
      complete = is_odd (slice_index ws j);
      cells = words_at ws (mid a j) (width a j);
    }

abbrev pub nothing : Shown
nothing = record { rows = []; complete = false; cells = [] }

-- what a view has seen of scope j
abbrev pub shown_at : View → ℕ → Shown
shown_at v j = slice_index_or v.seen j nothing

-- ys begins with xs
abbrev pub Begins : {A : Type 0} → List A → List A → Type 0
Begins {A} xs ys = (rest : List A) × (xs ++ rest ≡ ys)

-- The second is the first, or more of the same scope: no row is lost or changed, no cell that isn't empty changes, and
-- after a scope is complete nothing does.
pub record IsBefore (x y : Shown) : Type 0 where
  pub rows : Begins x.rows y.rows
  pub cells : Stays x.cells y.cells
  pub done : x.complete ≡ true → x ≡ y

-- ** What holds of a scope in every state

-- No name but 0 is that of two rows. Where no text of the unit has a syntax error, the rows are the first of the
-- finished ones, and all of them where the scope is complete.
pub record IsFair (a : About) (j : ℕ) (rows : List Row) (complete : Bool) : Type 0 where
  pub once : HasNoRepeats (λ r. r.name) rows
  pub begun : WhereFinished (texts_in a) (λ finished. take (length rows) (finished_at finished j) ≡ rows)
  pub whole : complete ≡ true → WhereFinished (texts_in a) (λ finished. rows ≡ finished_at finished j)

-- the rows are well formed at their places, the first of which is that of the ordinal n
abbrev pub AreFormed : About → ℕ → ℕ → List Row → Type 0
AreFormed a j n rows =
    (k : ℕ) (r : Row) → slice_get rows k ≡ Some r → IsWellFormed (length (texts_in a).names) (at_place j (n + k)) r

-- The rows have room before the cells, and so have the ordinals of the cells. Each row with a name has a cell that is
-- found from its home, and no row has two.
pub record IsGood (a : About) (j : ℕ) (t : Shown) : Type 0 where
  pub room : base a j + 8 * length t.rows ≤ mid a j
  pub behind : mid a j < base a (suc j)
  pub many : length t.cells ≡ width a j
  pub fair : IsFair a j t.rows t.complete
  pub index : IsIndexed (width a j) t.rows t.cells
  pub one : HasOneEach t.cells
  pub ordinals : (c : ℕ) → base a j + 8 * slice_index t.cells c ≤ mid a j

-- ** Rights: who may fill a scope

abbrev pub weight : Bool → ℕ
weight true = 1
weight false = 0

-- how often x is among them
abbrev pub times : ℕ → List ℕ → ℕ
times x [] = 0
times x (y ∷ ys) = weight (eqb x y) + times x ys

-- how often the right to scope j is among all views
abbrev pub rights_to : ℕ → List View → ℕ
rights_to j [] = 0
rights_to j (v ∷ vs) = times j v.rights + rights_to j vs

-- ** Looks

-- what the rows that these heads count answer
abbrev pub replied : (ℕ → Shown) → List Head → ℕ → Reply
replied T [] x = Absent
replied T (h ∷ heads) x = reply_or h (first_named x (take h.count (T h.scope).rows) 0) (replied T heads x)

-- the head was shown: its scope has so many rows, and these are all where it is complete
pub record WasShown (n : ℕ) (T : ℕ → Shown) (h : Head) : Type 0 where
  pub there : h.scope < n
  pub count : h.count ≤ length (T h.scope).rows
  pub done : h.complete ≡ true → (T h.scope).complete ≡ true
  pub all : h.complete ≡ true → length (T h.scope).rows ≡ h.count

-- A look is lawful in tables of n scopes: its heads were shown there, are those of the chain's first scopes, and all
-- but the last are complete; the reply comes from the last, and is what the rows that the heads count answer.
pub record IsLawful (n : ℕ) (T : ℕ → Shown) (l : Look) : Type 0 where
  pub shown : Each (WasShown n T) l.heads
  pub taken : IsTaken l.chain l.heads l.reply
  pub reply : l.reply ≡ replied T l.heads l.name

-- ** What holds of a view

-- each cell of scope j has the ordinal of a row that is shown or put
abbrev pub AreOfRows : View → ℕ → Type 0
AreOfRows v j = (c : ℕ) → 8 * slice_index (shown_at v j).cells c ≤ 8 * length (shown_at v j).rows + length v.put

-- A view that has the right to scope j has seen it as it stands, and the words past its rows are those that were put.
pub record Fills (a : About) (ws : List ℕ) (v : View) (j : ℕ) : Type 0 where
  pub there : j < scopes a
  pub same : table_at a ws j ≡ shown_at v j
  pub put : Stand ws (base a j + 8 * (slice_index ws j / 2)) v.put
  pub room : base a j + 8 * (slice_index ws j / 2) + length v.put ≤ mid a j
  pub cells : AreOfRows v j

-- What a view has seen of a scope is before what the words stand for, and its looks are lawful in that.
pub record Knows (a : About) (ws : List ℕ) (v : View) : Type 0 where
  pub about : v.about ≡ a
  pub wide : length v.seen ≡ scopes a
  pub seen : (j : ℕ) → j < scopes a → IsBefore (shown_at v j) (table_at a ws j)
  pub fills : (j : ℕ) → 0 < times j v.rights → Fills a ws v j
  pub looks : Each (IsLawful (scopes a) (table_at a ws)) v.looks

-- ** The rule

pub record IsKept (a : About) (s : State (Unit {0}) View) : Type 0 where
  pub laid : IsLaid a
  pub wide : length s.words ≡ base a (scopes a)
  pub good : (j : ℕ) → j < scopes a → IsGood a j (table_at a s.words j)
  pub formed : (j : ℕ) → j < scopes a → AreFormed a j 0 (table_at a s.words j).rows
  pub one : (j : ℕ) → rights_to j s.views ≤ 1
  pub knows : (i : ℕ) (v : View) → get_elem? s.views i ≡ some v → Knows a s.words v

-- ** The start: no scope has rows, and the first view may fill all

abbrev pub upto : ℕ → ℕ → List ℕ
upto j zero = []
upto j (suc n) = j ∷ upto (suc j) n

abbrev pub empty_at : About → ℕ → Shown
empty_at a j = record { rows = []; complete = false; cells = replicate (width a j) 0 }

-- n empty scopes, from j on
abbrev pub empty_from : About → ℕ → ℕ → List Shown
empty_from a j zero = []
empty_from a j (suc n) = empty_at a j ∷ empty_from a (suc j) n

abbrev pub first_view : About → View
first_view a = record {
  about = a;
  rights = upto 0 (scopes a);
  seen = empty_from a 0 (scopes a);
  put = [];
  loads = [];
  looks = [];
}

-- ** What a seat keeps of itself

-- what the view has seen of each scope is good
abbrev pub IsSound : View → Type 0
IsSound v = (j : ℕ) → j < scopes v.about → IsGood v.about j (shown_at v j)

-- the view of the seat that fills a scope, and the numbers beside it; scope 0 is seen complete, once it is filled
pub record IsSeated (v : View) (scope shown waiting : ℕ) (closed : Bool) : Type 0 where
  pub mine : v.rights ≡ scope ∷ []
  pub wide : length v.seen ≡ scopes v.about
  pub there : scope < scopes v.about
  pub shown_is : shown ≡ length (shown_at v scope).rows
  pub waiting_is : length v.put ≡ 8 * waiting
  pub closed_is : closed ≡ (shown_at v scope).complete
  pub rooms : IsSound v
  pub own_room : base v.about scope + 8 * shown + 8 * waiting ≤ mid v.about scope
  pub own_cells : AreOfRows v scope
  pub zero : scope ≢ 0 → (shown_at v 0).complete ≡ true

-- the key of no table
abbrev pub no_unit : About
no_unit =
    record {
      texts = record { marker = record {}; value = record { names = []; list = []; order = []; own = None } };
      bases = record { marker = record {}; value = [] };
      mids = record { marker = record {}; value = [] };
    }
