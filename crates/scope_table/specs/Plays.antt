-- What each step tells its seat.
use Rattle.std.specs.Prelude.{◌≡◌, ◌≢◌, ℕ, ◌+◌, ◌*◌, ◌/◌, ◌<◌, ◌≤◌, List, [], ◌∷◌, true, false, Some, cond, ltb, suc}
use Rattle.std.specs.Prelude.{take, drop, replicate, ◌++◌, length, slice_index, slice_set}
use Rattle.atomic_table.specs.Table.{Me, Step}
use Rattle.m2_base.specs.declared.rows.Row.{Row}
use Rattle.m2_base.specs.Rows.{at_place, IsWellFormed}
use Rattle.m2_base.specs.declared.replies.Head.{Head}
use Rattle.scope_table.specs.declared.view.Shown.{Shown}
use Rattle.scope_table.specs.declared.view.Look.{Look}
use Rattle.scope_table.specs.declared.view.About.{About}
use Rattle.scope_table.specs.declared.view.View.{View}
use Rattle.m2_base.specs.Keys.{row_key}
use Rattle.m2_base.specs.declared.rows.RowKey.{RowKey}
use Rattle.scope_table.specs.Cells.{IsFirstEmpty, HasNoCell, seed}
use Rattle.scope_table.specs.Rows.{words_of, row_of, rows_of, IsField}
use Rattle.scope_table.specs.Rule.{IsGood, IsBefore, shown_at, texts_in, scopes, is_odd, times, base, nothing, mid}
use Rattle.scope_table.specs.Rule.{width}

abbrev pub Sat : Type 0
Sat = Me (Unit {0}) View

-- ** A head is loaded

abbrev pub head_in : ℕ → Shown → Head
head_in s t = record { scope = s; count = length t.rows; complete = t.complete }

-- the view has seen this of scope j
abbrev pub sees : View → ℕ → Shown → View
sees v j t = record {
  about = v.about;
  rights = v.rights;
  seen = slice_set v.seen j t;
  put = v.put;
  loads = v.loads ++ head_in j t ∷ [];
  looks = v.looks;
}

-- the word found is the head of this state of the scope, which isn't before what the view had seen; where the view
-- fills the scope it is what it had seen
pub record IsSeen (v : View) (j found : ℕ) (t : Shown) : Type 0 where
  pub count : found / 2 ≡ length t.rows
  pub complete : is_odd found ≡ t.complete
  pub later : IsBefore (shown_at v j) t
  pub good : IsGood v.about j t
  pub wide : length v.seen ≡ scopes v.about
  pub mine : 0 < times j v.rights → t ≡ shown_at v j

abbrev pub head_loaded : Step (Unit {0}) → Sat → ℕ → Sat → Type 0
head_loaded st m found m' = (m'.1 ≡ m.1)
    × (st.word < scopes m.0.about → (t : Shown) × (m'.0 ≡ sees m.0 st.word t) × IsSeen m.0 st.word found t)

-- ** A word of a row that the seat has seen is loaded: it is a field of that row, which is well formed

pub record IsWordOf (v : View) (j i p found : ℕ) : Type 0 where
  pub field : (f : ℕ) → f < 8 → p ≡ base v.about j + 8 * i + f → IsField (row_of (shown_at v j).rows i) f found
  pub formed : IsWellFormed (length (texts_in v.about).names) (at_place j i) (row_of (shown_at v j).rows i)

abbrev pub row_loaded : Step (Unit {0}) → Sat → ℕ → Sat → Type 0
row_loaded st m found m' =
    (m' ≡ m) × ((j i : ℕ) → j < scopes m.0.about → i < length (shown_at m.0 j).rows → IsWordOf m.0 j i st.word found)

-- ** A cell is loaded: a cell that isn't empty in what the view has seen is found so, and so is each cell of a scope
-- that the view fills

pub record IsCellOf (v : View) (j c found : ℕ) : Type 0 where
  pub filled : slice_index (shown_at v j).cells c ≢ 0 → found ≡ slice_index (shown_at v j).cells c
  pub mine : 0 < times j v.rights → found ≡ slice_index (shown_at v j).cells c
  pub ordinal : base v.about j + 8 * found ≤ mid v.about j

abbrev pub cell_loaded : Step (Unit {0}) → Sat → ℕ → Sat → Type 0
cell_loaded st m found m' = (m' ≡ m) × ((j c : ℕ) → j < scopes m.0.about → c < width m.0.about j
    → st.word ≡ mid m.0.about j + c → IsCellOf m.0 j c found)

-- ** A cell of the scope that the view fills is put

-- the scope with this in a cell
abbrev pub marked : Shown → ℕ → ℕ → Shown
marked t c x = record { rows = t.rows; complete = t.complete; cells = slice_set t.cells c x }

abbrev pub marks : View → ℕ → ℕ → ℕ → View
marks v j c x = record {
  about = v.about;
  rights = v.rights;
  seen = slice_set v.seen j (marked (shown_at v j) c x);
  put = v.put;
  loads = v.loads;
  looks = v.looks;
}

abbrev pub cell_put : Step (Unit {0}) → Sat → ℕ → Sat → Type 0
cell_put st m x m' =
    (m'.1 ≡ m.1) × ((j c : ℕ) → m.0.rights ≡ j ∷ [] → st.word ≡ mid m.0.about j + c → m'.0 ≡ marks m.0 j c x)

-- ** A word of a row is put past the shown rows

abbrev pub puts : View → List ℕ → View
puts v xs =
    record { about = v.about; rights = v.rights; seen = v.seen; put = v.put ++ xs; loads = v.loads; looks = v.looks }

abbrev pub word_put : Step (Unit {0}) → Sat → ℕ → Sat → Type 0
word_put st m x m' = (m'.1 ≡ m.1) × (m'.0 ≡ puts m.0 (x ∷ []))

-- ** The rows that were put are shown

-- the rows of the scope that are shown, and those put
abbrev pub grown : View → ℕ → Shown
grown v j = record { rows = (shown_at v j).rows ++ rows_of v.put; complete = false; cells = (shown_at v j).cells }

abbrev pub shows : View → ℕ → View
shows v j = record {
  about = v.about;
  rights = v.rights;
  seen = slice_set v.seen j (grown v j);
  put = [];
  loads = v.loads;
  looks = v.looks;
}

abbrev pub rows_shown : Step (Unit {0}) → Sat → ℕ → Sat → Type 0
rows_shown st m x m' = (m'.1 ≡ m.1) × (m'.0 ≡ shows m.0 st.word)

-- the scope has room for one more row
abbrev pub HasRoom : About → View → ℕ → Type 0
HasRoom a v j = base a j + 8 * length (grown v j).rows + 8 ≤ mid a j

-- the view fills a scope whose rows, shown and put, end at the word p, and it has room for one more
pub record CanPut (v : View) (p : ℕ) : Type 0 where
  pub scope : ℕ
  pub mine : v.rights ≡ scope ∷ []
  pub there : scope < scopes v.about
  pub at : p ≡ base v.about scope + 8 * length (shown_at v scope).rows + length v.put
  pub room : p + 8 ≤ mid v.about scope

-- The ordinal is that of a row that is put and not shown; the row has a key and no cell, and this is the first empty
-- cell from the home of the key.
pub record CanMark (w : ℕ) (v : View) (j c o : ℕ) : Type 0 where
  pub hidden : length (shown_at v j).rows ≤ o
  pub put : o < length (grown v j).rows
  pub key : RowKey
  pub keyed : row_key (row_of (grown v j).rows o) ≡ Some key
  pub first : IsFirstEmpty w (seed key) c (shown_at v j).cells
  pub new : HasNoCell (shown_at v j).cells o

-- one row more is put into scope j, and at most a cell of it
pub record HasPut (v w : View) (j : ℕ) (r : Row) : Type 0 where
  pub about : w.about ≡ v.about
  pub rights : w.rights ≡ v.rights
  pub put : w.put ≡ v.put ++ words_of r
  pub loads : w.loads ≡ v.loads
  pub looks : w.looks ≡ v.looks
  pub rows : (shown_at w j).rows ≡ (shown_at v j).rows
  pub mark : (shown_at w j).complete ≡ (shown_at v j).complete
  pub others : (k : ℕ) → k ≢ j → shown_at w k ≡ shown_at v k

-- ** The scope is complete

abbrev pub ended : View → ℕ → Shown
ended v j = record { rows = (shown_at v j).rows; complete = true; cells = (shown_at v j).cells }

abbrev pub seals : View → ℕ → View
seals v j = record {
  about = v.about;
  rights = v.rights;
  seen = slice_set v.seen j (ended v j);
  put = v.put;
  loads = v.loads;
  looks = v.looks;
}

abbrev pub is_sealed : Step (Unit {0}) → Sat → ℕ → Sat → Type 0
is_sealed st m x m' = (m'.1 ≡ m.1) × (m'.0 ≡ seals m.0 st.word)

-- ** A look is noted

abbrev pub notes : View → Look → View
notes v l = record {
  about = v.about;
  rights = v.rights;
  seen = v.seen;
  put = v.put;
  loads = v.loads;
  looks = v.looks ++ l ∷ [];
}

abbrev pub look_noted : Look → Step (Unit {0}) → Sat → ℕ → Sat → Type 0
look_noted l st m found m' = (m'.1 ≡ m.1) × (m'.0 ≡ notes m.0 l)

-- ** A view is cut in two

-- a view with the first right alone, and what is left
abbrev pub first_right : View → View
first_right v = record { about = v.about; rights = take 1 v.rights; seen = v.seen; put = []; loads = []; looks = [] }

abbrev pub other_rights : View → View
other_rights v =
    record { about = v.about; rights = drop 1 v.rights; seen = v.seen; put = []; loads = v.loads; looks = v.looks }

-- what a view has seen, with no right
abbrev pub note_of : View → View
note_of v = record { about = v.about; rights = []; seen = v.seen; put = []; loads = []; looks = [] }

abbrev pub same_view : View → View
same_view v = v

-- ** Two views are made one

-- the later of two states of a scope
abbrev pub later : Shown → Shown → Shown
later x y = cond x.complete x (cond y.complete y (cond (ltb (length x.rows) (length y.rows)) y x))

-- from the scope j on, but for those that are filled
abbrev pub later_all : List ℕ → ℕ → List Shown → List Shown → List Shown
later_all rs j [] ys = []
later_all rs j (x ∷ xs) [] = x ∷ xs
later_all rs j (x ∷ xs) (y ∷ ys) = cond (ltb 0 (times j rs)) x (later x y) ∷ later_all rs (suc j) xs ys

-- of each scope that it doesn't fill, the first view has seen the later of what the two have
abbrev pub told_of : View → View → View
told_of v w = record {
  about = v.about;
  rights = v.rights;
  seen = later_all v.rights 0 v.seen w.seen;
  put = v.put;
  loads = v.loads;
  looks = v.looks;
}

-- a view that nobody steps with any more
abbrev pub spent : About → View
spent a = record { about = a; rights = []; seen = replicate (scopes a) nothing; put = []; loads = []; looks = [] }

abbrev pub with_rights : View → View → View
with_rights v w = record {
  about = v.about;
  rights = v.rights ++ w.rights;
  seen = v.seen;
  put = v.put;
  loads = v.loads;
  looks = v.looks;
}

-- no right is in a view twice
abbrev pub once_each : Step (Unit {0}) → Sat → ℕ → Sat → Type 0
once_each st m found m' = (m' ≡ m) × ((j : ℕ) → m.0.rights ≡ j ∷ j ∷ [] → ◌≡◌ {A = ℕ} 0 1)
