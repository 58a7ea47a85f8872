-- The parts of what a variable takes.
use Rattle.std.specs.Prelude.{Bool, ℕ, not, ◌==◌, ◌&&◌, ◌||◌}
use Rattle.m2_base.specs.Rows.{is_same_place}
use Rattle.m2_base.specs.Standard.{character}
use Rattle.m2_base.specs.Statics.Assignable.{are_both_numbers, is_long_enough, is_open_array, takes_procedure}
use Rattle.m2_base.specs.Statics.Assignable.{takes_string}
use Rattle.m2_base.specs.Statics.Compatible.{is_compatible}
use Rattle.m2_base.specs.Statics.Contexts.{Scene}
use Rattle.m2_base.specs.Statics.Operands.{operand_type}
use Rattle.m2_base.specs.Statics.Types.{base_of, is_same, kind_of, range_of}
use Rattle.m2_base.specs.declared.operands.Operand.{Operand}
use Rattle.m2_base.specs.declared.operands.Operand.TheVariants.{Computed}
use Rattle.m2_base.specs.declared.rows.Place.{Place}

-- an array of these indices and elements takes a string of this length
abbrev pub array_takes : Scene → (len : ℕ) → (index elem : Place) → Bool
array_takes scene len index elem = is_same scene elem character && is_long_enough len (range_of scene index)

-- a string of this length is one character, and a variable a CHAR
abbrev pub takes_char : Scene → (to : Place) → (len : ℕ) → Bool
takes_char scene to len = (len == 1) && is_same_place (base_of scene to) character

-- a variable takes a string of this length
abbrev pub takes_text : Scene → (to : Place) → (len : ℕ) → Bool
takes_text scene to len = takes_char scene to len || takes_string scene len (kind_of scene to)

-- INTEGER with CARDINAL, or procedure types
abbrev pub takes_other : Scene → (to of : Place) → Bool
takes_other scene to of = are_both_numbers (base_of scene to) (base_of scene of) || takes_procedure scene to of

-- a variable takes a value of a closed type
abbrev pub takes_value : Scene → (to : Place) → Operand → Bool
takes_value scene to o = is_compatible scene o (Computed to) || takes_other scene to (operand_type o)

-- a variable takes a value, of a closed type
abbrev pub takes_closed : Scene → (to : Place) → Operand → Bool
takes_closed scene to o = not (is_open_array scene (operand_type o)) && takes_value scene to o
