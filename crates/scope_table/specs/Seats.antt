-- What a clause says of a table and a seat.
use Rattle.std.specs.Prelude.{◌≡◌, ◌≢◌, ℕ, List, [], ◌∷◌, true, length, ◌<◌, ◌+◌, ◌*◌, slice_index, slice_index_or}
use Rattle.atomic_table.specs.Seated.{TableId}
use Rattle.m2_base.specs.Units.{UnitTexts}
use Rattle.m2_base.specs.declared.replies.Head.{Head}
use Rattle.m2_base.specs.declared.replies.Reply.{Reply}
use Rattle.scope_table.specs.Cells.{IsWidth}
use Rattle.scope_table.specs.Rule.{scopes, base, mid, width, texts_in, shown_at, IsSound}
use Rattle.scope_table.specs.Opening.{IsStart}
use Rattle.scope_table.specs.declared.view.Look.{Look}
use Rattle.scope_table.specs.declared.view.About.{About}
use Rattle.scope_table.specs.declared.view.View.{View}
use Rattle.scope_table.specs.declared.table.TableSeat.{TableSeat}
use Rattle.scope_table.specs.declared.table.ScopeTable.{ScopeTable}

abbrev pub view : TableSeat → View
view s = s.seat.me.0

-- the scope that it fills
abbrev pub scope_of : TableSeat → ℕ
scope_of s = s.scope

-- What always holds of a seat: it has the right to its scope, what it has seen of each scope keeps to the rule, and
-- scope 0 is seen complete.
pub record IsWhole (s : TableSeat) : Type 0 where
  pub rights : (view s).rights ≡ scope_of s ∷ []
  pub there : scope_of s < scopes (view s).about
  pub wide : length (view s).seen ≡ scopes (view s).about
  pub sound : IsSound (view s)
  pub zero : scope_of s ≢ 0 → (shown_at (view s) 0).complete ≡ true

abbrev pub id_of : ScopeTable → TableId
id_of t = t.table.shared.table_id

abbrev pub key_of : ScopeTable → About
key_of t = t.table.shared.key

-- the seat is one of this table
abbrev pub IsOf : ScopeTable → TableSeat → Type 0
IsOf t s = (s.seat.table_id ≡ id_of t) × ((view s).about ≡ key_of t)

-- it is the seat of the same scope of the same table
abbrev pub IsSameSeat : TableSeat → TableSeat → Type 0
IsSameSeat s s' = (s'.seat.table_id ≡ s.seat.table_id) × (scope_of s' ≡ scope_of s)

abbrev pub look_by : ℕ → ℕ → List ℕ → List Head → Reply → Look
look_by at name chain heads reply = record { at = at; name = name; chain = chain; heads = heads; reply = reply }

-- The seat of scope k as the table is opened.
pub record IsFirst (t : ScopeTable) (k : ℕ) (s : TableSeat) : Type 0 where
  pub scope : scope_of s ≡ k
  pub table : IsOf t s
  pub rights : (view s).rights ≡ k ∷ []
  pub start : IsStart (key_of t) (view s)

-- the seats of so many scopes, in order
pub record AreFirst (t : ScopeTable) (seats : List TableSeat) (many : ℕ) : Type 0 where
  pub each : (k : ℕ) (d : TableSeat) → k < many → IsFirst t k (slice_index_or seats k d)
  pub all : length seats ≡ many

-- A table is opened for these texts: each scope has room for so many rows and the cells to go with them,
-- and a seat of its own.
pub record IsOpened (t : ScopeTable) (seats : List TableSeat) (texts : UnitTexts) (sizes : List ℕ) : Type 0 where
  pub texts_are : texts_in (key_of t) ≡ texts
  pub many : scopes (key_of t) ≡ length sizes
  pub rooms : (k : ℕ) → k < length sizes → mid (key_of t) k ≡ base (key_of t) k + 8 * slice_index sizes k
  pub widths : (k : ℕ) → k < length sizes → IsWidth (slice_index sizes k) (width (key_of t) k)
  pub seats_are : AreFirst t seats (length sizes)
