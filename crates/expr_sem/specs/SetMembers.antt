-- What becomes of the element of INCL and EXCL.
use Rattle.std.specs.Prelude.{ℕ, Option, Some, None}
use Rattle.m2_base.specs.Gives.{Gives}
use Rattle.m2_base.specs.Statics.Contexts.{Context, refuse}
use Rattle.m2_base.specs.Statics.Diagnostics.{wrong_argument}
use Rattle.m2_base.specs.declared.operands.Operand.{Operand}
use Rattle.m2_base.specs.declared.rows.Place.{Place}
use Rattle.block_code.specs.Coded.{Coded, in_error, taken}
use Rattle.block_code.specs.Values.{in_range}

-- an element beside a value of the set's base, where they are compatible
abbrev pub member_by : Context → (at : ℕ) → (base : Place) → Coded → Option (Operand × Operand) → Gives Coded
member_by c at base v None = refuse c at wrong_argument in_error
member_by c at base v (Some pair) = in_range c at base (taken pair.0 v)
