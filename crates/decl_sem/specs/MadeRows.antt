-- Rows in the making, with an index of the fields among them.
use Rattle.std.specs.HashSet.{HashSet, contains}
use Rattle.std.specs.List.{list_any}
use Rattle.std.specs.Prelude.{◌≡◌, ℕ, Bool, false, ◌==◌, ◌&&◌, List, Option, None, Some}
use Rattle.m2_base.specs.Statics.TypeParts.{is_field}
use Rattle.m2_base.specs.declared.rows.Row.{Row}

-- the rows, as clauses see them
pub record RowsInHand : Type 0 where
  pub items : List Row

-- two fields are of one record, and have one name
abbrev pub is_same_field : ℕ × ℕ → ℕ × ℕ → Bool
is_same_field x y = (x.0 == y.0) && (x.1 == y.1)

-- a field's record and name are these
abbrev pub is_key : (own name : ℕ) → Option (ℕ × ℕ) → Bool
is_key own name None = false
is_key own name (Some key) = is_same_field key (own, name)

-- the index has the fields of the rows: the ordinal of each one's record, and its name
abbrev pub AreIndexed : {S : Type 0} → HashSet (ℕ × ℕ) S → List Row → Type 0
AreIndexed fields rows = (own name : ℕ) → contains is_same_field fields (own, name) ≡ list_any (is_field own name) rows
