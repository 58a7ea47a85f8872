-- The code of the tests of IF, WHILE and REPEAT: the value of a BOOLEAN. A test in error stands as FALSE.
use Rattle.std.specs.Prelude.{ℕ, pos, [], ◌∷◌, if◌then◌else◌}
use Rattle.m2_base.specs.Gives.{Gives, gives}
use Rattle.m2_base.specs.Statics.Contexts.{Context, refuse}
use Rattle.m2_base.specs.Statics.Diagnostics.{not_boolean}
use Rattle.m2_base.specs.Statics.Operands.{is_bad}
use Rattle.m2_base.specs.Statics.Operations.{is_boolean}
use Rattle.code_form.specs.declared.instr.Instr.TheVariants.{Push}
use Rattle.block_code.specs.Coded.{Coded, value_code}
use Rattle.block_code.specs.Parts.{Part, plain}

-- FALSE
abbrev pub false_code : Part
false_code = plain (Push (pos 0) ∷ [])

-- a test; `at` is its first token
abbrev pub test_code : Context → (at : ℕ) → Coded → Gives Part
test_code c at x =
    if is_bad x.operand then gives false_code else
    if is_boolean c x.operand then gives (value_code c x) else
    refuse c at not_boolean false_code
