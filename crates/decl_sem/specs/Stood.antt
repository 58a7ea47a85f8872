-- What the types of parts may be, by what they stand for and what its row says.
use Rattle.std.specs.Prelude.{Bool, ℕ, if◌then◌else◌, is_none, not, ◌||◌, ◌&&◌}
use Rattle.m2_base.specs.Rows.{Fits, is_same_place}
use Rattle.m2_base.specs.Standard.{broken}
use Rattle.m2_base.specs.Statics.Arrays.{count_by, is_index_range, is_set_range}
use Rattle.m2_base.specs.Statics.Contexts.{Context}
use Rattle.m2_base.specs.Statics.ProcedureTypes.{is_structured_kind}
use Rattle.m2_base.specs.Statics.Types.{kind_of, range_by, stands_for}
use Rattle.m2_base.specs.declared.rows.Place.{Place}
use Rattle.m2_base.specs.declared.rows.RowMeaning.{RowMeaning}

-- what a type stands for, and what its row says
abbrev pub stood_in : Place → Context → Place × RowMeaning
stood_in t c = (stands_for c.scene t, kind_of c.scene t)

-- the base of a set may be this, or is in error
abbrev pub may_be_base : Place × RowMeaning → Bool
may_be_base stood = is_same_place stood.0 broken || is_set_range (range_by stood.1)

-- an index type may be this, or is in error
abbrev pub may_be_index : Place × RowMeaning → Bool
may_be_index stood = is_same_place stood.0 broken || is_index_range (range_by stood.1)

-- an array or a record
abbrev pub is_structured_row : Place × RowMeaning → Bool
is_structured_row stood = is_structured_kind stood.1

-- neither ordinal nor in error
abbrev pub is_no_tag : Place × RowMeaning → Bool
is_no_tag stood = not (is_same_place stood.0 broken) && is_none (range_by stood.1)

-- the elements of an array whose index type this is, one in error counting as one value
abbrev pub elements_by : Place × RowMeaning → ℕ
elements_by stood = if is_same_place stood.0 broken then 1 else count_by (range_by stood.1)

-- some row may say this
pub record IsOfSomeRow (m : RowMeaning) : Type 0 where
  pub names : ℕ
  pub place : Place
  pub fits : Fits names place m
