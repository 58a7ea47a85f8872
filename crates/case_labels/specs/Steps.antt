-- The steps of ranges: the ranges that reach further than all that begin before them or with them. A range lies within
-- a step, so that the last step that begins before a value tells whether any range reaches another.
use Rattle.std.specs.List.{Contains}
use Rattle.std.specs.Prelude.{◌≡◌, ◌⊎◌, ℤ, ◌<ℤ◌, ◌≤ℤ◌, List, Option, Some}

-- steps by where they begin: the last value of the one that begins there
abbrev pub Steps : Type 0
Steps = ℤ → Option ℤ

-- a step that begins at this value or before it reaches that one
abbrev pub Reaches : Steps → (from to : ℤ) → Type 0
Reaches steps from to = (low : ℤ) × (high : ℤ) × (steps low ≡ Some high) × (low ≤ℤ from) × (to ≤ℤ high)

-- a step that begins later reaches further
abbrev pub Rises : Steps → Type 0
Rises steps = (low high later further : ℤ) → steps low ≡ Some high → steps later ≡ Some further → low <ℤ later
    → high <ℤ further

-- each step is one of the ranges, each range lies within a step, and the steps rise
pub record AreSteps (steps : Steps) (ranges : List (ℤ × ℤ)) : Type 0 where
  pub among : (low high : ℤ) → steps low ≡ Some high → Contains ranges (low, high)
  pub within : (low high : ℤ) → Contains ranges (low, high) → Reaches steps low high
  pub rise : Rises steps

-- a step begins here, and lies within the range from low to high
abbrev pub BeginsWithin : Steps → (low high : ℤ) → (at : ℤ) → Type 0
BeginsWithin steps low high at = (to : ℤ) × (steps at ≡ Some to) × (low ≤ℤ at) × (to ≤ℤ high)

-- no step lies within the range from low to high
abbrev pub NoneWithin : Steps → (low high : ℤ) → Type 0
NoneWithin steps low high = (at to : ℤ) → steps at ≡ Some to → low ≤ℤ at → high <ℤ to

-- the later steps are among the earlier ones, and only steps that lie within the range from low to high are gone
pub record LoseWithin (low high : ℤ) (before after : Steps) : Type 0 where
  pub among : (at to : ℤ) → after at ≡ Some to → before at ≡ Some to
  pub kept : (at to : ℤ) → before at ≡ Some to → (after at ≡ Some to) ⊎ ((low ≤ℤ at) × (to ≤ℤ high))
