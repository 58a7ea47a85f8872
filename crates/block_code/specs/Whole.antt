-- What is asked of the rows in sight so that whatever is in error was refused: no part of a row is in error. The row
-- of parts in error, which the standard scope has, may stand there; but no part of a row is it.
use Rattle.std.specs.Prelude.{◌≡◌, ◌≢◌, ℕ, false, Some, slice_get}
use Rattle.std.specs.Option.{IsSome}
use Rattle.m2_base.specs.Lists.{WhereKept}
use Rattle.m2_base.specs.Rows.{row_meaning}
use Rattle.m2_base.specs.declared.rows.Place.{Place}
use Rattle.m2_base.specs.declared.rows.Row.{Row}
use Rattle.m2_base.specs.declared.rows.RowMeaning.{RowMeaning}
use Rattle.m2_base.specs.declared.rows.RowMeaning.TheVariants.{Alias, Array, Const, Field, Module, OpenArray, Param}
use Rattle.m2_base.specs.declared.rows.RowMeaning.TheVariants.{Pointer, Proc, ProcType, Set, Standard, TypeName, Var}
use Rattle.m2_base.specs.Standard.{standard_rows}
use Rattle.m2_base.specs.Statics.Contexts.{Scene, row_at}
use Rattle.m2_base.specs.Statics.TypeParts.{named_target}
use Rattle.m2_base.specs.Statics.Types.{is_broken, meaning_at}
use Rattle.m2_base.specs.Tables.{rows_at}
use Rattle.block_code.specs.ProcedureNames.{target_of_procedure}

-- a type that isn't in error
abbrev pub IsWholeType : Scene → Place → Type 0
IsWholeType scene t = is_broken scene t ≡ false

-- No part of a type, a field or a parameter of this meaning is in error. A pointer may lead to the row of a type's
-- name, whose type counts then.
abbrev pub HasWholeParts : Scene → RowMeaning → Type 0
HasWholeParts scene (Field t offset own name) = IsWholeType scene t
HasWholeParts scene (Param t by_ref own) = IsWholeType scene t
HasWholeParts scene (Array index elem size) = IsWholeType scene index × IsWholeType scene elem
HasWholeParts scene (OpenArray elem) = IsWholeType scene elem
HasWholeParts scene (Set base) = IsWholeType scene base
HasWholeParts scene (Pointer p) = IsWholeType scene (named_target p (meaning_at scene p))
HasWholeParts scene (ProcType result count first) = WhereKept result (IsWholeType scene)
HasWholeParts scene other = Unit {0}

-- no alias
abbrev pub IsNoAlias : RowMeaning → Type 0
IsNoAlias (Alias p) = ⊥
IsNoAlias other = Unit {0}

-- What a name may stand for: a constant, a type or a variable whose type isn't in error; a procedure, where a heading
-- of the own definition has its procedure in the module; a module or a standard procedure; or an alias of a row with a
-- name, which is no alias itself.
abbrev pub IsWholeName : Scene → (name : ℕ) → RowMeaning → Type 0
IsWholeName scene name (Const t v len) = IsWholeType scene t
IsWholeName scene name (TypeName t) = IsWholeType scene t
IsWholeName scene name (Var t mode offset) = IsWholeType scene t
IsWholeName scene name (Proc t number s) = IsSome (target_of_procedure scene name t number)
IsWholeName scene name (Module s) = Unit {0}
IsWholeName scene name (Standard n) = Unit {0}
IsWholeName scene name (Alias p) = ((row_at scene.tables p).name ≢ 0) × IsNoAlias (meaning_at scene p)
IsWholeName scene name other = ⊥

-- no part of this row is in error, and its name, where it has one, stands for something
pub record IsWholeRow (scene : Scene) (r : Row) : Type 0 where
  pub parts : HasWholeParts scene (row_meaning r)
  pub named : r.name ≢ 0 → IsWholeName scene r.name (row_meaning r)

-- each row that stands in the tables of a scene is whole; the standard scope is as it always is
pub record AreWhole (scene : Scene) : Type 0 where
  pub standard : rows_at scene.tables 0 ≡ standard_rows
  pub rows : (s o : ℕ) (r : Row) → slice_get (rows_at scene.tables s) o ≡ Some r → IsWholeRow scene r
