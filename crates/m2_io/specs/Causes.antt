-- A fault is answered only where a count of faults rose.
use Rattle.std.specs.Prelude.{◌≡◌, ◌+◌, ◌-◌, ◌^◌, ◌≤◌, ℕ, min}

-- A count after one more fault. At its last value it stands still.
abbrev pub risen : ℕ → ℕ
risen count = min (count + 1) (2 ^ 64 - 1)

-- The count rose, or stands at its last value.
abbrev pub Rose : ℕ → ℕ → Type 0
Rose before now = risen before ≤ now

-- The count rose by one where the fact holds, and is as before where it doesn't.
pub record RoseWhere (fact : Type 0) (before now : ℕ) : Type 0 where
  pub rose : fact → now ≡ risen before
  pub stayed : ¬ fact → now ≡ before
