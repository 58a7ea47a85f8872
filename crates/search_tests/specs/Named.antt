-- A scope of a unit without finished rows is filled with rows of variables, whose names follow each other.
use Rattle.std.specs.Prelude.{◌≡◌, ℕ, zero, suc, ◌+◌, ◌*◌, ◌≤◌, ◌<◌, ◌^◌, false, List, [], ◌∷◌, length, slice_index}
use Rattle.m2_base.specs.Finished.{WhereFinished}
use Rattle.m2_base.specs.Rows.{row_of}
use Rattle.m2_base.specs.Standard.{integer}
use Rattle.m2_base.specs.States.{State, areas_of, fills_of, texts_of}
use Rattle.m2_base.specs.Units.{UnitTexts}
use Rattle.m2_base.specs.declared.kind.TokenKind.{TokenKind}
use Rattle.m2_base.specs.declared.kind.TokenKind.TheVariants.{EndOfText}
use Rattle.m2_base.specs.declared.rows.Mode.TheVariants.{Plain}
use Rattle.m2_base.specs.declared.rows.Row.{Row}
use Rattle.m2_base.specs.declared.rows.RowMeaning.TheVariants.{Var}
use Rattle.m2_base.specs.declared.token.Token.{Token}
use Rattle.scope_table.specs.Rule.{base, mid, scopes, texts_in}
use Rattle.scope_table.specs.Seats.{key_of}
use Rattle.scope_table.specs.declared.table.ScopeTable.{ScopeTable}

-- the kind of the first token
abbrev pub first_kind : List Token → TokenKind
first_kind [] = EndOfText
first_kind (t ∷ ts) = t.kind

-- no rows are the unit's in the end
abbrev pub IsUnread : UnitTexts → Type 0
IsUnread u = WhereFinished u (λ tables. ⊥)

-- the name of the first row
abbrev pub first_name : ℕ
first_name = 100

abbrev pub row_named : ℕ → Row
row_named n = row_of n 1 (Var integer Plain 0)

-- so many rows, the first of this name
abbrev pub rows_named : ℕ → ℕ → List Row
rows_named n zero = []
rows_named n (suc k) = row_named n ∷ rows_named (suc n) k

-- a table of three scopes for these texts; scope 1 has room for so many rows
pub record IsTable (t : ScopeTable) (u : UnitTexts) (room : ℕ) : Type 0 where
  pub texts : texts_in (key_of t) ≡ u
  pub many : scopes (key_of t) ≡ 3
  pub area : mid (key_of t) 1 ≡ base (key_of t) 1 + 8 * room

-- Scope 1 is filled, in a unit with at least so many names and no finished rows: it has so many rows,
-- and room for so many.
pub record HasNamed (st : State) (names room many : ℕ) : Type 0 where
  pub there : names ≤ length (texts_of st).names
  pub unread : IsUnread (texts_of st)
  pub fills : fills_of st ≡ 1
  pub area : slice_index (areas_of st) 1 ≡ room
  pub entered : st.frame.entered ≡ rows_named first_name many
  pub open_yet : st.frame.closed ≡ false
  pub fits : many ≤ room
  pub small : room < 2 ^ 31
