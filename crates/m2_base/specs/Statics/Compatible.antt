-- When two operands are compatible.
use Rattle.std.specs.Prelude.{Bool, false, not, true, if◌then◌else◌, ◌&&◌, ◌||◌}
use Rattle.m2_base.specs.Rows.{Opaque, Place, Pointer, RowMeaning, is_same_place}
use Rattle.m2_base.specs.Standard.{cardinal, character, integer, nil_type, whole}
use Rattle.m2_base.specs.Statics.Contexts.{Scene, Source}
use Rattle.m2_base.specs.Statics.Operands.{as_char, is_one_char, is_string, operand_type}
use Rattle.m2_base.specs.Statics.Types.{base_of, kind_of}
use Rattle.m2_base.specs.declared.operands.Operand.{Operand}

-- a string of one character beside a CHAR that is no string
abbrev pub is_beside_char : Scene → Operand → Operand → Bool
is_beside_char scene x y =
    is_one_char x && not (is_string y) && is_same_place (base_of scene (operand_type y)) character

-- INTEGER or CARDINAL, as a base
abbrev pub is_integer_or_cardinal : Place → Bool
is_integer_or_cardinal t = is_same_place t integer || is_same_place t cardinal

-- INTEGER, CARDINAL, or a whole constant
abbrev pub is_number_type : Place → Bool
is_number_type t = is_integer_or_cardinal t || is_same_place t whole

-- the meaning of a pointer's row or of an opaque type's
abbrev pub is_pointer_kind : RowMeaning → Bool
is_pointer_kind (Pointer t) = true
is_pointer_kind Opaque = true
is_pointer_kind other = false

-- the type is a pointer or an opaque type
abbrev pub is_pointer : Scene → Place → Bool
is_pointer scene t = is_pointer_kind (kind_of scene t)

-- One base; a whole constant's with INTEGER or CARDINAL; NIL's with a pointer or an opaque type.
abbrev pub are_compatible_bases : Scene → Place → Place → Bool
are_compatible_bases scene t u =
    is_same_place t u
    || (is_same_place t whole && is_integer_or_cardinal u)
    || (is_same_place u whole && is_integer_or_cardinal t)
    || (is_same_place t nil_type && is_pointer scene u)
    || (is_same_place u nil_type && is_pointer scene t)

-- The same base; a whole constant with INTEGER or CARDINAL; NIL with a pointer or an opaque type; a string of one
-- character with CHAR.
abbrev pub is_compatible : Scene → Operand → Operand → Bool
is_compatible scene x y =
    is_beside_char scene x y
    || is_beside_char scene y x
    || are_compatible_bases scene (base_of scene (operand_type x)) (base_of scene (operand_type y))

-- an operand as it is taken beside another: a string of one character beside a CHAR is a CHAR
abbrev pub taken_beside : Source → Scene → Operand → Operand → Operand
taken_beside source scene x y = if is_beside_char scene x y then as_char source x else x
