-- What is said of rows where no declaration had a diagnostic: no part of a row is in error,
-- and what has a name leads to something.
use Rattle.std.specs.Prelude.{◌≡◌, ◌≢◌, ℕ, false, List, Some, slice_get}
use Rattle.m2_base.specs.Lists.{WhereKept}
use Rattle.m2_base.specs.Rows.{is_same_place, row_meaning}
use Rattle.m2_base.specs.declared.rows.Place.{Place}
use Rattle.m2_base.specs.declared.rows.Row.{Row}
use Rattle.m2_base.specs.declared.rows.RowMeaning.{RowMeaning}
use Rattle.m2_base.specs.declared.rows.RowMeaning.TheVariants.{Alias, Array, Const, Field, Module, OpenArray, Param}
use Rattle.m2_base.specs.declared.rows.RowMeaning.TheVariants.{Pointer, Proc, ProcType, Set, Standard, TypeName, Var}
use Rattle.m2_base.specs.Standard.{broken}
use Rattle.m2_base.specs.Statics.Contexts.{row_at}
use Rattle.m2_base.specs.Tables.{rows_at}

-- the type isn't that of parts in error
abbrev pub IsClear : Place → Type 0
IsClear t = is_same_place t broken ≡ false

-- No type in a row is that of parts in error. A pointer may lead to the row of a type's name instead.
abbrev pub HasClear : RowMeaning → Type 0
HasClear (Const t v l) = IsClear t
HasClear (TypeName t) = IsClear t
HasClear (Var t m o) = IsClear t
HasClear (Field t o q n) = IsClear t
HasClear (Param t v q) = IsClear t
HasClear (Array i t s) = IsClear i × IsClear t
HasClear (OpenArray t) = IsClear t
HasClear (Set t) = IsClear t
HasClear (Pointer t) = IsClear t
HasClear (ProcType r n first) = WhereKept r IsClear
HasClear other = Unit {0}

-- what a name leads to in the end
abbrev pub IsTarget : RowMeaning → Type 0
IsTarget (Const t v l) = Unit {0}
IsTarget (TypeName t) = Unit {0}
IsTarget (Var t m o) = Unit {0}
IsTarget (Proc t k s) = Unit {0}
IsTarget (Module s) = Unit {0}
IsTarget (Standard n) = Unit {0}
IsTarget other = ⊥

-- a row has a name, and is no alias
abbrev pub IsNamedTarget : Row → Type 0
IsNamedTarget r = (r.name ≢ 0) × IsTarget (row_meaning r)

-- an alias leads to a row that has a name and is none
abbrev pub LeadsOn : List (List Row) → RowMeaning → Type 0
LeadsOn tables (Alias p) = IsNamedTarget (row_at tables p)
LeadsOn tables other = Unit {0}

-- what a row with a name may be
abbrev pub IsNamable : RowMeaning → Type 0
IsNamable (Alias p) = Unit {0}
IsNamable m = IsTarget m

-- no type in the row is that of parts in error, an alias leads on, and a row with a name is what may have one
abbrev pub IsClearRow : List (List Row) → Row → Type 0
IsClearRow tables r =
    HasClear (row_meaning r) × LeadsOn tables (row_meaning r) × (r.name ≢ 0 → IsNamable (row_meaning r))

-- all rows of these scopes are clear
abbrev pub AreClear : List (List Row) → Type 0
AreClear tables = (s o : ℕ) (r : Row) → slice_get (rows_at tables s) o ≡ Some r → IsClearRow tables r
