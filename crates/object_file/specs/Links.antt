-- How deep procedures are nested, and which of those around a procedure are found at once.
use Rattle.std.specs.Prelude.{◌≡◌, ◌≢◌, ◌<◌, ◌≤◌, ◌-◌, ℕ, suc, List, length, slice_index, Some}
use Rattle.code_form.specs.Modules.{World}
use Rattle.code_form.specs.Valid.{outer_of, linked}
use Rattle.object_file.specs.declared.links.Links.{Links}

-- what encloses a procedure has a smaller number
abbrev pub OutersBelow : World → Type 0
OutersBelow w = (k : ℕ) → outer_of w k ≢ 0 → outer_of w k < k

-- For the first procedures: how many enclose each, its level, and one of those, to which so many links lead as their
-- levels differ by. A procedure that none encloses has itself in its place.
pub record AreLinks (w : World) (levels jumps : List ℕ) : Type 0 where
  pub many : length jumps ≡ length levels
  pub low : (k : ℕ) → slice_index levels k ≤ k
  pub top : (k : ℕ) → outer_of w k ≡ 0 → slice_index levels k ≡ 0
  pub deeper : (k : ℕ) → k < length levels → outer_of w k ≢ 0
      → slice_index levels k ≡ suc (slice_index levels (outer_of w k))
  pub known : (k : ℕ) → k < length levels → slice_index jumps k ≤ k
  pub near : (k : ℕ) → k < length levels → slice_index levels (slice_index jumps k) ≤ slice_index levels k
  pub further : (k : ℕ) → k < length levels → outer_of w k ≢ 0
      → slice_index levels (slice_index jumps k) < slice_index levels k
  pub leads : (k : ℕ) → k < length levels
      → linked w (slice_index levels k - slice_index levels (slice_index jumps k)) k ≡ Some (slice_index jumps k)

-- the links of all procedures
pub record AreLinksOf (w : World) (l : Links) : Type 0 where
  pub links : AreLinks w l.levels.items l.jumps.items
  pub all : length l.levels.items ≡ length w.procedures

-- from the one procedure, links lead to the other, which isn't further out than this level
pub record IsNearer (w : World) (levels : List ℕ) (from level to : ℕ) : Type 0 where
  pub within : level ≤ slice_index levels to
  pub further : slice_index levels to < slice_index levels from
  pub leads : linked w (slice_index levels from - slice_index levels to) from ≡ Some to

-- one of those around the procedure with this outer one
pub record IsJump (w : World) (levels : List ℕ) (k outer to : ℕ) : Type 0 where
  pub known : to < length levels
  pub near : slice_index levels to ≤ slice_index levels outer
  pub leads : linked w (suc (slice_index levels outer) - slice_index levels to) k ≡ Some to
