-- When a value is checked against the range of a type: where it isn't constant, and not every value of its own type is
-- one of that type.
use Rattle.std.specs.Prelude.{Bool, true, ◌||◌, int_lt, List, [], ◌∷◌, if◌then◌else◌, Option, Some, None}
use Rattle.m2_base.specs.declared.rows.Place.{Place}
use Rattle.m2_base.specs.Statics.Contexts.{Context, Scene}
use Rattle.m2_base.specs.Statics.Ranges.{Range}
use Rattle.m2_base.specs.Statics.Types.{range_of}
use Rattle.m2_base.specs.declared.operands.Operand.TheVariants.{Computed, Variable}
use Rattle.m2_base.specs.declared.operands.Operand.{Operand}
use Rattle.code_form.specs.declared.instr.Instr.{Instr}
use Rattle.code_form.specs.declared.instr.Instr.TheVariants.{Check}
use Rattle.block_code.specs.Coded.{Coded, value_code}
use Rattle.block_code.specs.Parts.{Part, plain, none, ◌⨟◌}

-- the first range isn't within the second
abbrev pub reaches_beyond : Option Range → Range → Bool
reaches_beyond None to = true
reaches_beyond (Some from) to = int_lt from.low to.low || int_lt to.high from.high

-- the check of a value of the first range against the second, where the first isn't within it
abbrev pub check_of : (from to : Option Range) → List Instr
check_of from None = []
check_of from (Some to) = if reaches_beyond from to then Check to.low to.high ∷ [] else []

-- the check behind a value of one type that is to be of another
abbrev pub fit_check : Scene → (from to : Place) → Part
fit_check scene from to = plain (check_of (range_of scene from) (range_of scene to))

-- The check behind an operand that is to be of a type. A constant was looked at already, and a procedure has no range.
abbrev pub fit_of : Scene → (to : Place) → Operand → Part
fit_of scene to (Variable t) = fit_check scene t to
fit_of scene to (Computed t) = fit_check scene t to
fit_of scene to other = none

-- the code of a value that is to be of a type
abbrev pub fitted_code : Context → (to : Place) → Coded → Part
fitted_code c to x = value_code c x ⨟ fit_of c.scene to x.operand
