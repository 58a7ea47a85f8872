-- The code of CASE. The selector's value goes to a temporary cell. Each arm tests its labels one after another, and is
-- taken where one holds; where none does and there is no ELSE, the machine traps.
use Rattle.std.specs.Prelude.{ℕ, ℤ, List, [], ◌∷◌, if◌then◌else◌, Option, Some, None}
use Rattle.m2_base.specs.Gives.{Gives, gives}
use Rattle.m2_base.specs.declared.rows.Place.{Place}
use Rattle.m2_base.specs.Standard.{broken}
use Rattle.m2_base.specs.Statics.CaseLabels.{LabelTest}
use Rattle.m2_base.specs.Statics.Contexts.{Context, refuse}
use Rattle.m2_base.specs.Statics.Diagnostics.{wrong_operands}
use Rattle.m2_base.specs.Statics.Operands.{is_bad, operand_type}
use Rattle.m2_base.specs.Statics.Operations.{is_ordinal}
use Rattle.code_form.specs.declared.instr.Instr.TheVariants.{AndJump, Eq, Ge, Le, Load, Local, OrJump, Push, Store}
use Rattle.code_form.specs.declared.instr.Instr.TheVariants.{Trap}
use Rattle.block_code.specs.Coded.{Coded, value_code}
use Rattle.block_code.specs.Parts.{Part, none, plain, skip, ◌⨟◌}
use Rattle.block_code.specs.Tests.{false_code}

-- the type of the selector, which is ordinal; `at` is its first token
abbrev pub selector_type : Context → (at : ℕ) → Coded → Gives Place
selector_type c at x =
    if is_bad x.operand then gives broken else
    if is_ordinal c x.operand then gives (operand_type x.operand) else
    refuse c at wrong_operands broken

-- the selector's value; one in error stands as 0
abbrev pub selector_value : Context → Coded → Part
selector_value c x = if is_bad x.operand then false_code else value_code c x

-- the selector's value goes to this cell
abbrev pub selector_code : Context → (cell : ℕ) → Coded → Part
selector_code c t x = plain (Local 0 t ∷ []) ⨟ selector_value c x ⨟ plain (Store ∷ [])

-- whether the selector is this value, or lies in the range from it to the second one
abbrev pub label_by : (cell : ℕ) → (low : ℤ) → (high : Option ℤ) → Part
label_by t low None = plain (Local 0 t ∷ Load ∷ Push low ∷ Eq ∷ [])
label_by t low (Some high) =
    plain (Local 0 t ∷ Load ∷ Push low ∷ Ge ∷ []) ⨟ skip AndJump (plain (Local 0 t ∷ Load ∷ Push high ∷ Le ∷ []))

-- whether the selector is one of a label's values
abbrev pub label_code : (cell : ℕ) → LabelTest → Part
label_code t l = label_by t l.low l.high

-- the tests of further labels; each is skipped where one before it holds
abbrev pub more_labels_code : (cell : ℕ) → List LabelTest → Part
more_labels_code t [] = none
more_labels_code t (l ∷ ls) = skip OrJump (label_code t l) ⨟ more_labels_code t ls

-- the tests of an arm's labels
abbrev pub labels_code : (cell : ℕ) → List LabelTest → Part
labels_code t [] = false_code
labels_code t (l ∷ ls) = label_code t l ⨟ more_labels_code t ls

-- no label holds, and there is no ELSE
abbrev pub no_case : Part
no_case = plain (Trap 8 ∷ [])
