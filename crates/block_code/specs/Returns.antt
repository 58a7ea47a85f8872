-- The code of RETURN. In a function it has a value, which is assignable to the result and is fitted to it; elsewhere
-- it has none.
use Rattle.std.specs.Prelude.{ℕ, if◌then◌else◌, Option, Some, None}
use Rattle.m2_base.specs.Gives.{Gives, gives, and_then}
use Rattle.m2_base.specs.declared.rows.Place.{Place}
use Rattle.m2_base.specs.Statics.Contexts.{Context, refuse}
use Rattle.m2_base.specs.Statics.Diagnostics.{not_assignable, wrong_return}
use Rattle.m2_base.specs.Statics.Operands.{is_bad}
use Rattle.code_form.specs.declared.instr.Instr.TheVariants.{Return}
use Rattle.block_code.specs.Coded.{Coded}
use Rattle.block_code.specs.Fitting.{fitted_code}
use Rattle.block_code.specs.Parts.{Part, call, none, ◌⨟◌}
use Rattle.block_code.specs.Values.{assigned_to}

-- the end of a procedure that has no result
abbrev pub return_code : Part
return_code = call Return 0 0

-- the end of a function with this value, unless it is in error
abbrev pub returned : Context → Place → Coded → Part
returned c t x = if is_bad x.operand then none else (fitted_code c t x ⨟ call Return 1 0)

-- RETURN without a value, in a procedure with this result
abbrev pub return_alone : Context → (at : ℕ) → Option Place → Gives Part
return_alone c at None = gives return_code
return_alone c at (Some t) = refuse c at wrong_return none

-- RETURN with a value; `x_at` is the value's first token
abbrev pub return_value : Context → (at : ℕ) → Option Place → (x_at : ℕ) → Coded → Gives Part
return_value c at None x_at x = refuse c at wrong_return none
return_value c at (Some t) x_at x = and_then (assigned_to c t x_at not_assignable x) (λ v. gives (returned c t v))
