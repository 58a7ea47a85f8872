-- What becomes of a value for a variable of a type.
use Rattle.std.specs.Prelude.{ℕ, if◌then◌else◌}
use Rattle.m2_base.specs.Gives.{Gives, gives}
use Rattle.m2_base.specs.States.{Frame}
use Rattle.m2_base.specs.Statics.Assignable.{is_assignable, taken_into}
use Rattle.m2_base.specs.Statics.Contexts.{Context, refuse}
use Rattle.m2_base.specs.declared.operands.Operand.{Operand}
use Rattle.m2_base.specs.declared.rows.Place.{Place}
use Rattle.const_eval.specs.Sites.{IsOperand}
use Rattle.block_code.specs.Coded.{Coded, in_error, taken}
use Rattle.block_code.specs.Values.{in_range, is_passed_over}
use Rattle.expr_sem.specs.declared.takings.Taking.{Taking}
use Rattle.expr_sem.specs.declared.takings.Taking.TheVariants.{PassedOver, Refused, Taken}

-- of what isn't passed over
abbrev pub taken_or_refused : Context → (to : Place) → Operand → Taking
taken_or_refused c to o = if is_assignable c.scene to o then Taken (taken_into c.source c.scene to o) else Refused

-- what becomes of a value
abbrev pub taking : Context → (to : Place) → Operand → Taking
taking c to o = if is_passed_over c.scene to o then PassedOver else taken_or_refused c to o

-- what is taken may stand
abbrev pub IsTaking : Frame → Taking → Type 0
IsTaking f (Taken o) = IsOperand f o
IsTaking f other = Unit {0}

-- what that gives, where a refusal has this number
abbrev pub taken_as : Context → (to : Place) → (at code : ℕ) → Coded → Taking → Gives Coded
taken_as c to at code x PassedOver = gives in_error
taken_as c to at code x Refused = refuse c at code in_error
taken_as c to at code x (Taken o) = in_range c at to (taken o x)
