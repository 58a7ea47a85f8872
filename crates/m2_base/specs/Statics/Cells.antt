-- How many cells a type or a block may have.
use Rattle.std.specs.Prelude.{min, nat_lt, ℕ, ◌+◌, if◌then◌else◌}
use Rattle.m2_base.specs.Gives.{Gives, gives}
use Rattle.m2_base.specs.declared.limits.TheConstants.{MOST_CELLS}
use Rattle.m2_base.specs.Rows.{Place}
use Rattle.m2_base.specs.Standard.{broken}
use Rattle.m2_base.specs.Statics.Contexts.{Context, refuse}
use Rattle.m2_base.specs.Statics.Diagnostics.{too_many_cells}

-- a type, or a block's cells, have at most so many
abbrev pub most_cells : ℕ
most_cells = MOST_CELLS

-- what would be more is one more than that
abbrev pub capped : ℕ → ℕ
capped n = min n (most_cells + 1)

-- a type of too many cells is refused at its first token, and in error
abbrev pub fitting : Context → (at size : ℕ) → Place → Gives Place
fitting c at size t = if nat_lt most_cells size then refuse c at too_many_cells broken else gives t
