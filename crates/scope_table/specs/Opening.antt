-- How a table begins.
use Rattle.std.specs.Prelude.{◌≡◌, ℕ, suc, ◌+◌, ◌-◌, ◌*◌, ◌<◌, ◌≤◌, true, List, [], length, slice_index}
use Rattle.m2_base.specs.Standard.{standard_rows}
use Rattle.scope_table.specs.Cells.{IsWidth}
use Rattle.scope_table.specs.Rule.{scopes, shown_at, empty_at, IsSound}
use Rattle.scope_table.specs.declared.view.About.{About}
use Rattle.scope_table.specs.declared.view.View.{View}

-- a scope with room for so many rows lies from b to e, and has its cells from m on
pub record IsPart (size b m e : ℕ) : Type 0 where
  pub room : m ≡ b + 8 * size
  pub width : IsWidth size (e - m)
  pub behind : m < e
  pub narrow : e ≤ m + 4294967296

-- where the scopes of these sizes and their cells begin, behind the heads
pub record AreBases (bs ms sizes : List ℕ) : Type 0 where
  pub many : length bs ≡ length sizes + 1
  pub all : length ms ≡ length sizes
  pub first : slice_index bs 0 ≡ length sizes
  pub parts : (k : ℕ) → k < length sizes
      → IsPart (slice_index sizes k) (slice_index bs k) (slice_index ms k) (slice_index bs (suc k))
  pub small : slice_index bs (length sizes) < 4611686018427387904

-- the view has seen no row of any scope
pub record IsEmptyStart (a : About) (v : View) : Type 0 where
  pub about : v.about ≡ a
  pub wide : length v.seen ≡ scopes a
  pub each : (j : ℕ) → j < scopes a → shown_at v j ≡ empty_at a j
  pub put : v.put ≡ []
  pub loads : v.loads ≡ []
  pub looks : v.looks ≡ []

-- the view has seen scope 0 complete with the standard rows, and no row of any other scope
pub record IsStart (a : About) (v : View) : Type 0 where
  pub about : v.about ≡ a
  pub wide : length v.seen ≡ scopes a
  pub zero_rows : (shown_at v 0).rows ≡ standard_rows
  pub zero_complete : (shown_at v 0).complete ≡ true
  pub others : (j : ℕ) → 0 < j → j < scopes a → shown_at v j ≡ empty_at a j
  pub sound : IsSound v
  pub put : v.put ≡ []
  pub loads : v.loads ≡ []
  pub looks : v.looks ≡ []
