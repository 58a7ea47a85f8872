-- Names that are new in a block, as an import brings them.
use Rattle.std.specs.Prelude.{◌≡◌, ◌≢◌, ℕ, ◌+◌, nat_lt, false, if◌then◌else◌, List, [], ◌∷◌, Option, None, Some}
use Rattle.m2_base.specs.Lists.{Each}
use Rattle.m2_base.specs.Rows.{alias_kind}
use Rattle.m2_base.specs.Standard.{is_standard}
use Rattle.m2_base.specs.Statics.Contexts.{Layout}
use Rattle.m2_base.specs.Statics.Lookup.{first_entry}
use Rattle.m2_base.specs.declared.rows.Row.{Row}
use Rattle.m2_base.specs.declared.sites.Named.{Named}

-- the ordinal of the row that the entry is of, if it stands before this one
abbrev pub ordinal_before : (next : ℕ) → Option Named → Option ℕ
ordinal_before next None = None
ordinal_before next (Some n) = if nat_lt n.ordinal next then Some n.ordinal else None

-- the ordinal of the block's row of this name, where this is that of the next row; no row has a standard name
abbrev pub earlier_row : Layout → (next name : ℕ) → Option ℕ
earlier_row l next name = if is_standard name then None else ordinal_before next (first_entry l name)

-- An alias that an item brings, in the row with this ordinal. Its name is no standard one, and the layout has no row
-- of that name before the limit.
pub record IsNewName (l : Layout) (item limit o : ℕ) (b : Named) : Type 0 where
  pub named : b.name ≢ 0
  pub plain : is_standard b.name ≡ false
  pub kind : b.kind ≡ alias_kind
  pub of_item : b.item ≡ item
  pub at : b.ordinal ≡ o
  pub unknown : ordinal_before limit (first_entry l b.name) ≡ None

-- aliases that an item brings, one row after another from this ordinal on; their names differ
abbrev pub AreNewNames : Layout → (item limit o : ℕ) → List Named → Type 0
AreNewNames l i limit o [] = Unit {0}
AreNewNames l i limit o (b ∷ brought) =
    IsNewName l i limit o b × (Each (λ d. d.name ≢ b.name) brought × AreNewNames l i limit (o + 1) brought)

-- rows of these names
abbrev pub AreRowsOf : List Named → List Row → Type 0
AreRowsOf [] [] = Unit {0}
AreRowsOf (b ∷ brought) (r ∷ rows) = (r.kind ≡ b.kind) × (r.at ≡ b.at) × (r.name ≡ b.name) × AreRowsOf brought rows
AreRowsOf brought rows = ⊥
