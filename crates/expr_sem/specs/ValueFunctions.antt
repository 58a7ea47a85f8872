-- The standard functions of values, each by its static rule and by the code that it makes of the value.
use Rattle.std.specs.Prelude.{ℕ, pos, List, [], ◌∷◌, Option, Some, None}
use Rattle.m2_base.specs.Gives.{Gives, gives, and_then}
use Rattle.m2_base.specs.Standard.{cardinal, character}
use Rattle.m2_base.specs.States.{Frame}
use Rattle.m2_base.specs.Statics.Contexts.{Context, Scene}
use Rattle.m2_base.specs.Statics.Functions.{val_of}
use Rattle.m2_base.specs.Statics.Operands.{operand_type}
use Rattle.m2_base.specs.Statics.Types.{range_of, size_of}
use Rattle.m2_base.specs.declared.operands.Operand.{Operand}
use Rattle.m2_base.specs.declared.rows.Place.{Place}
use Rattle.code_form.specs.declared.instr.Instr.{Instr}
use Rattle.code_form.specs.declared.instr.Instr.TheVariants.{Push, Eq, Mod as Remainder, Abs as Magnify}
use Rattle.code_form.specs.declared.instr.Instr.TheVariants.{Cap as Capitalise}
use Rattle.const_eval.specs.Calls.{of_value}
use Rattle.const_eval.specs.Sites.{IsOperand}
use Rattle.const_eval.specs.declared.calls.ValueFunction.{ValueFunction}
use Rattle.const_eval.specs.declared.calls.ValueFunction.TheVariants.{Abs, Cap, Chr, Odd, Ord}
use Rattle.block_code.specs.Coded.{Coded, value_code}
use Rattle.block_code.specs.Fitting.{fitted_code}
use Rattle.block_code.specs.Operators.{made, side_of}
use Rattle.block_code.specs.Parts.{Part, plain, ◌⨟◌}
use Rattle.block_code.specs.StandardFunctions.{high_of_range, magnitude, named_type}
use Rattle.expr_sem.specs.declared.value_functions.Ending.{Ending}
use Rattle.expr_sem.specs.declared.value_functions.Ending.TheVariants.{Nothing, Magnitude, Capital, Oddness}
use Rattle.expr_sem.specs.declared.value_functions.Rule.{Rule}
use Rattle.expr_sem.specs.declared.value_functions.Rule.TheVariants.{Function, Val}

-- the static rule
abbrev pub rule_of : Context → Rule → (at : ℕ) → Operand → Gives Operand
rule_of c (Function f) at = of_value c f at
rule_of c (Val t) at = val_of c t.at t.operand at

-- the type that a function makes its argument one of
abbrev pub function_target : ValueFunction → Option Place
function_target Chr = Some character
function_target Ord = Some cardinal
function_target other = None

-- the type that the value becomes one of
abbrev pub target_of : Rule → Option Place
target_of (Function f) = function_target f
target_of (Val t) = Some (named_type t.operand)

-- the instructions behind the value of an argument of this type
abbrev pub function_ending : Scene → Place → ValueFunction → List Instr
function_ending scene t Abs = magnitude scene t
function_ending scene t Cap = Capitalise ∷ []
function_ending scene t Odd = Push (pos 2) ∷ Remainder (side_of scene t) ∷ Push (pos 1) ∷ Eq ∷ []
function_ending scene t other = []

-- the same, of a rule; a value that is fitted has none
abbrev pub ending : Scene → Place → Rule → List Instr
ending scene t (Function f) = function_ending scene t f
ending scene t other = []

-- the instructions of an ending
abbrev pub instrs_of : Ending → List Instr
instrs_of Nothing = []
instrs_of Magnitude = Magnify ∷ []
instrs_of Capital = Capitalise ∷ []
instrs_of (Oddness side) = Push (pos 2) ∷ Remainder side ∷ Push (pos 1) ∷ Eq ∷ []

-- the code of the value under the rule, by the type that it becomes one of
abbrev pub code_to : Context → Rule → Coded → Option Place → Part
code_to c rule v (Some to) = fitted_code c to v
code_to c rule v None = value_code c v ⨟ plain (ending c.scene (operand_type v.operand) rule)

-- the code of the value under the rule
abbrev pub code_of : Context → Rule → Coded → Part
code_of c rule v = code_to c rule v (target_of rule)

-- what the rule gives of a value, with its code
abbrev pub under : Context → Rule → (at : ℕ) → Coded → Gives Coded
under c rule at v = and_then (rule_of c rule at v.operand) (λ r. gives (made r (code_of c rule v)))

-- what the rule speaks of may stand
abbrev pub IsRuleHere : Frame → Rule → Type 0
IsRuleHere f (Val t) = IsOperand f t.operand
IsRuleHere f other = Unit {0}

-- the number of elements less 1 of an array with this index type, pushed
abbrev pub pushed_high : Scene → (index : Place) → Part
pushed_high scene i = plain (Push (high_of_range (range_of scene i)) ∷ [])

-- the size of a type, pushed
abbrev pub pushed_size : Scene → Place → Part
pushed_size scene t = plain (Push (pos (size_of scene t)) ∷ [])
