-- Rows as the layout gives them: each has the kind and the token of its shape, and its name or none.
use Rattle.std.specs.Prelude.{◌≡◌, ◌≢◌, ℕ, ◌+◌, ◌==◌, Bool, false, if◌then◌else◌, List, [], ◌∷◌, ◌++◌, Option, None}
use Rattle.std.specs.Prelude.{Some, option_map}
use Rattle.m2_base.specs.declared.rows.Row.{Row}
use Rattle.m2_base.specs.Standard.{is_standard}
use Rattle.m2_base.specs.declared.sites.Named.{Named}
use Rattle.m2_base.specs.Statics.Contexts.{Layout}
use Rattle.m2_base.specs.Statics.Lookup.{first_entry}
use Rattle.m2_base.specs.Statics.Shapes.{Shape}

-- the entry is of the row with this ordinal
abbrev pub is_of : (ordinal : ℕ) → Option Named → Bool
is_of o None = false
is_of o (Some n) = n.ordinal == o

-- the name that the row with this ordinal keeps: none, where it is a standard name, or where the layout has an earlier
-- row of that name
abbrev pub kept_name : Layout → (ordinal name : ℕ) → ℕ
kept_name l o name = if is_standard name then 0 else if is_of o (first_entry l name) then name else 0

-- the row with this ordinal is as the layout gives it
pub record IsLaid (l : Layout) (o : ℕ) (s : Shape) (r : Row) : Type 0 where
  pub kind : r.kind ≡ s.kind
  pub at : r.at ≡ s.at
  pub name : r.name ≡ kept_name l o s.name

-- the rows from this ordinal on are as many as the shapes, and each is as the layout gives it
pub data AreLaid : Layout → (o : ℕ) → List Shape → List Row → Type 0 where
  none_laid : {l : Layout} {o : ℕ} → AreLaid l o [] []
  more_laid : {l : Layout} {o : ℕ} {s : Shape} {ss : List Shape} {r : Row} {rs : List Row}
      → IsLaid l o s r → AreLaid l (o + 1) ss rs → AreLaid l o (s ∷ ss) (r ∷ rs)

-- the ordinal of the first shape of this name, where the first of them has this ordinal
abbrev pub first_shape : (name : ℕ) → List Shape → (o : ℕ) → Option ℕ
first_shape name [] o = None
first_shape name (s ∷ ss) o = if s.name == name then Some o else first_shape name ss (o + 1)

-- the layout has the first of each name among the shapes
abbrev pub HasFirsts : Layout → List Shape → Type 0
HasFirsts l shapes =
    (name : ℕ) → name ≢ 0 → option_map (λ n. n.ordinal) (first_entry l name) ≡ first_shape name shapes 0

-- These rows of the block are made, as the layout gives them, and these shapes are the next.
pub record IsAhead (l : Layout) (rows : List Row) (ahead : List Shape) : Type 0 where
  pub before : List Shape
  pub rest : List Shape
  pub laid : AreLaid l 0 before rows
  pub firsts : HasFirsts l (before ++ (ahead ++ rest))

-- The rows have grown by some that are as the layout gives them.
pub record GrowsLaid (l : Layout) (before after : List Row) (o : ℕ) (shapes : List Shape) : Type 0 where
  pub rows : List Row
  pub more : after ≡ before ++ rows
  pub laid : AreLaid l o shapes rows
