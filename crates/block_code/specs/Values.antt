-- What may stand where a value is wanted, and which value a variable of a type takes. A type or a module alone is no
-- variable. A standard procedure, or one that is declared in a procedure, is no procedure value.
use Rattle.std.specs.Prelude.{ℕ, Bool, false, ◌==◌, ◌&&◌, ◌||◌, if◌then◌else◌, Option}
use Rattle.m2_base.specs.Gives.{Gives, gives}
use Rattle.m2_base.specs.declared.rows.Place.{Place}
use Rattle.m2_base.specs.declared.rows.RowMeaning.{RowMeaning}
use Rattle.m2_base.specs.declared.rows.RowMeaning.TheVariants.{Array}
use Rattle.m2_base.specs.Statics.Assignable.{is_assignable, taken_into}
use Rattle.m2_base.specs.Statics.Contexts.{Context, Scene, level_of, refuse}
use Rattle.m2_base.specs.Statics.Diagnostics.{not_a_procedure_value, not_a_variable, out_of_range}
use Rattle.m2_base.specs.Statics.Operands.{is_bad, is_string}
use Rattle.m2_base.specs.Statics.Ranges.{Range, is_within}
use Rattle.m2_base.specs.Statics.Types.{is_broken, kind_of, range_of}
use Rattle.m2_base.specs.declared.operands.Operand.TheVariants.{Constant, ModuleName, NamedType, Procedure}
use Rattle.m2_base.specs.declared.operands.Operand.TheVariants.{StandardProcedure}
use Rattle.m2_base.specs.declared.operands.Operand.{Operand}
use Rattle.block_code.specs.Coded.{Coded, in_error, taken}

-- by its operand, what stands where a value is wanted
abbrev pub as_value_by : Context → (at : ℕ) → Coded → Operand → Gives Coded
as_value_by c at x (NamedType t) = refuse c at not_a_variable in_error
as_value_by c at x (ModuleName s) = refuse c at not_a_variable in_error
as_value_by c at x (StandardProcedure n) = refuse c at not_a_procedure_value in_error
as_value_by c at x (Procedure n t k s) =
    if level_of c.scene.block t.scope == 0 then gives x else refuse c at not_a_procedure_value in_error
as_value_by c at x other = gives x

-- what stands where a value is wanted
abbrev pub as_value : Context → (at : ℕ) → Coded → Gives Coded
as_value c at x = as_value_by c at x x.operand

-- a constant lies in the range, where there is one
abbrev pub in_range_by : Context → (at : ℕ) → Option Range → Coded → Operand → Gives Coded
in_range_by c at r x (Constant t v) = if is_within r v then gives x else refuse c at out_of_range in_error
in_range_by c at r x other = gives x

-- a constant lies in the range of the type that takes it
abbrev pub in_range : Context → (at : ℕ) → (to : Place) → Coded → Gives Coded
in_range c at to x = in_range_by c at (range_of c.scene to) x x.operand

-- an array whose index type or element type is in error
abbrev pub has_broken_part : Scene → RowMeaning → Bool
has_broken_part scene (Array i t s) = is_broken scene i || is_broken scene t
has_broken_part scene other = false

-- nothing is said of a value in error, nor of a type in error, nor of a string for an array with a part in error
abbrev pub is_passed_over : Scene → (to : Place) → Operand → Bool
is_passed_over scene to o = is_bad o || is_broken scene to || (is_string o && has_broken_part scene (kind_of scene to))

-- A value that a variable of a type takes, as it is taken: it must be assignable, or else is refused with this code,
-- and a constant must lie in the type's range.
abbrev pub assigned_to : Context → (to : Place) → (at code : ℕ) → Coded → Gives Coded
assigned_to c to at code x =
    if is_passed_over c.scene to x.operand then gives in_error else
    if is_assignable c.scene to x.operand
    then in_range c at to (taken (taken_into c.source c.scene to x.operand) x)
    else refuse c at code in_error
