-- Types whose rows are in hand.
use Rattle.std.specs.Prelude.{ℕ, ◌-◌, ◌==◌, ◌&&◌, Bool, not, nat_lt, slice_index_or}
use Rattle.m2_base.specs.Rows.{row_meaning, row_of}
use Rattle.m2_base.specs.declared.rows.Place.{Place}
use Rattle.m2_base.specs.declared.rows.RowMeaning.{RowMeaning}
use Rattle.m2_base.specs.declared.rows.RowMeaning.TheVariants.{Broken}
use Rattle.decl_sem.specs.declared.making.Made.{Made}

-- the place is one of this scope, at this ordinal or behind it
abbrev pub is_held : (scope first : ℕ) → Place → Bool
is_held scope first p = (p.scope == scope) && not (nat_lt p.ordinal first)

-- what the row in hand at a place says
abbrev pub held_meaning : Made → Place → RowMeaning
held_meaning made p = row_meaning (slice_index_or made.rows.items (p.ordinal - made.first) (row_of 0 0 Broken))
