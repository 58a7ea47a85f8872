-- The code of WITH: the address of its record goes to a temporary cell once,
-- and the statements in it take it from there.
use Rattle.std.specs.Prelude.{ℕ, ◌||◌, Bool, true, false, [], ◌∷◌, if◌then◌else◌}
use Rattle.m2_base.specs.Gives.{Gives, gives}
use Rattle.m2_base.specs.declared.rows.RowMeaning.{RowMeaning}
use Rattle.m2_base.specs.declared.rows.RowMeaning.TheVariants.{Record}
use Rattle.m2_base.specs.Statics.Contexts.{Context, refuse}
use Rattle.m2_base.specs.Statics.Diagnostics.{not_a_record}
use Rattle.m2_base.specs.Statics.Operands.{is_bad, operand_type}
use Rattle.m2_base.specs.Statics.Types.{kind_of}
use Rattle.code_form.specs.declared.instr.Instr.TheVariants.{Local, Store}
use Rattle.block_code.specs.Coded.{Coded, in_error}
use Rattle.block_code.specs.Parts.{Part, none, plain, ◌⨟◌}
use Rattle.block_code.specs.Flows.{Flow, in_with}

-- the meaning of a record's row
abbrev pub is_record : RowMeaning → Bool
is_record (Record f s) = true
is_record other = false

-- the variable of a WITH is a record; `at` is its first token
abbrev pub record_variable : Context → (at : ℕ) → Coded → Gives Coded
record_variable c at x =
    if is_bad x.operand || is_record (kind_of c.scene (operand_type x.operand)) then gives x
    else refuse c at not_a_record in_error

-- the address of the record goes to this cell
abbrev pub with_code : (cell : ℕ) → Coded → Part
with_code t x = if is_bad x.operand then none else (plain (Local 0 t ∷ []) ⨟ x.code ⨟ plain (Store ∷ []))

-- the statements in a WITH of this variable; of one in error they stand alone
abbrev pub in_with_of : Coded → (cell : ℕ) → Flow → Flow
in_with_of x t body = if is_bad x.operand then body else in_with t body
