-- When an operand can be assigned to a variable of a type.
use Rattle.std.specs.Prelude.{Bool, None, Option, Some, false, nat_le, not, true, ℕ, ◌==◌, ◌&&◌, ◌||◌}
use Rattle.m2_base.specs.Rows.{Array, OpenArray, Place, ProcType, RowMeaning, is_same_place}
use Rattle.m2_base.specs.Standard.{character}
use Rattle.m2_base.specs.Statics.Compatible.{is_compatible, is_integer_or_cardinal, taken_beside}
use Rattle.m2_base.specs.Statics.Contexts.{Scene, Source}
use Rattle.m2_base.specs.Statics.Operands.{operand_type}
use Rattle.m2_base.specs.Statics.Ranges.{Range, count_of}
use Rattle.m2_base.specs.Statics.SameForm.{is_same_form}
use Rattle.m2_base.specs.Statics.Types.{base_of, is_same, kind_of, range_of}
use Rattle.m2_base.specs.declared.operands.Operand.TheVariants.{Computed, Procedure, StringConstant}
use Rattle.m2_base.specs.declared.operands.Operand.{Operand}

-- the meaning of an open array's row
abbrev pub is_open_kind : RowMeaning → Bool
is_open_kind (OpenArray t) = true
is_open_kind other = false

-- the type is an open array's
abbrev pub is_open_array : Scene → Place → Bool
is_open_array scene t = is_open_kind (kind_of scene t)

-- an array with this range of indices has room for so many characters
abbrev pub is_long_enough : ℕ → Option Range → Bool
is_long_enough len None = false
is_long_enough len (Some r) = nat_le len (count_of r)

-- an array of CHAR at least as long
abbrev pub takes_string : Scene → ℕ → RowMeaning → Bool
takes_string scene len (Array index elem size) =
    is_same scene elem character && is_long_enough len (range_of scene index)
takes_string scene len other = false

-- the meaning of a procedure type's row
abbrev pub is_procedure_kind : RowMeaning → Bool
is_procedure_kind (ProcType r n f) = true
is_procedure_kind other = false

-- the type is a procedure type
abbrev pub is_procedure_type : Scene → Place → Bool
is_procedure_type scene t = is_procedure_kind (kind_of scene t)

-- a procedure, or a variable of a procedure type, of the same form
abbrev pub takes_procedure : Scene → Place → Place → Bool
takes_procedure scene to from =
    is_procedure_type scene to && is_procedure_type scene from && is_same_form scene to from

-- INTEGER with CARDINAL
abbrev pub are_both_numbers : Place → Place → Bool
are_both_numbers t u = is_integer_or_cardinal t && is_integer_or_cardinal u

-- a variable of this type, which is no open array, takes the operand
abbrev pub takes : Scene → Place → Operand → Bool
takes scene to (Procedure n t k s) = takes_procedure scene to t
takes scene to (StringConstant n len) =
    ((len == 1) && is_same_place (base_of scene to) character) || takes_string scene len (kind_of scene to)
takes scene to o =
    not (is_open_array scene (operand_type o))
    && (is_compatible scene o (Computed to)
    || are_both_numbers (base_of scene to) (base_of scene (operand_type o))
    || takes_procedure scene to (operand_type o))

-- Compatible; INTEGER with CARDINAL; a string to an array of CHAR at least as long; a procedure to a procedure type
-- of the same form. An open array is never assigned whole.
abbrev pub is_assignable : Scene → (to : Place) → Operand → Bool
is_assignable scene to o = not (is_open_array scene to) && takes scene to o

-- an operand as it is assigned: a string of one character to a CHAR is a CHAR
abbrev pub taken_into : Source → Scene → (to : Place) → Operand → Operand
taken_into source scene to o = taken_beside source scene o (Computed to)
