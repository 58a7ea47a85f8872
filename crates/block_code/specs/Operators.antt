-- The code of operators. What an operator gives is the static rule's; where that is constant there is no code. Else
-- the operands' values come from left to right, and then the instruction. The right side of AND and of OR is skipped
-- where the left one decides. A string of one character is a CHAR here.
use Rattle.std.specs.Prelude.{ℕ, List, [], ◌∷◌, if◌then◌else◌}
use Rattle.m2_base.specs.Gives.{Gives, gives, and_then}
use Rattle.m2_base.specs.Rows.{is_same_place}
use Rattle.m2_base.specs.declared.rows.Place.{Place}
use Rattle.m2_base.specs.Standard.{integer}
use Rattle.m2_base.specs.Statics.Contexts.{Context, Scene}
use Rattle.m2_base.specs.Statics.Operands.{operand_type}
use Rattle.m2_base.specs.Statics.Operations.{apply_one, is_set_kind, operate}
use Rattle.m2_base.specs.Statics.Types.{base_of, kind_of}
use Rattle.m2_base.specs.declared.trees.operators.Operator.{Operator}
use Rattle.m2_base.specs.declared.operands.Operand.TheVariants.{Computed, Constant}
use Rattle.m2_base.specs.declared.operands.Operand.{Operand}
use Rattle.m2_base.specs.declared.trees.operators.Operator.TheVariants.{And, Div, Equal, Greater, GreaterEqual, Less}
use Rattle.m2_base.specs.declared.trees.operators.Operator.TheVariants.{LessEqual, Minus, Mod, Not, Or, Plus, Slash}
use Rattle.m2_base.specs.declared.trees.operators.Operator.TheVariants.{Times, Unequal}
use Rattle.code_form.specs.declared.instr.Instr.{Instr}
use Rattle.code_form.specs.declared.instr.Instr.TheVariants.{Add, Sub, Mul, Neg, Eq, Ne, Lt, Le, Gt, Ge, Union, Diff}
use Rattle.code_form.specs.declared.instr.Instr.TheVariants.{Inter, SymDiff, Subset, Superset, AndJump, OrJump}
use Rattle.code_form.specs.declared.instr.Instr.TheVariants.{Div as Quotient, Mod as Remainder, Not as Negation}
use Rattle.code_form.specs.declared.instr.Instr.TheVariants.{In as Member}
use Rattle.block_code.specs.Coded.{Coded, coded, bare, in_error, value_code, with_char}
use Rattle.block_code.specs.Parts.{Part, plain, ◌⨟◌, skip}

-- a result with its code, which a constant doesn't need; anything else is in error
abbrev pub made : Operand → Part → Coded
made (Computed t) code = coded (Computed t) code
made (Constant t v) code = bare (Constant t v)
made other code = in_error

-- 0 tells INTEGER, 1 all other types
abbrev pub side_of : Scene → Place → ℕ
side_of scene t = if is_same_place (base_of scene t) integer then 0 else 1

-- the instruction of an operator that stands before one operand; plus has none
abbrev pub one_instr : Operator → List Instr
one_instr Not = Negation ∷ []
one_instr Minus = Neg ∷ []
one_instr other = []

-- an operator before one operand
abbrev pub one_coded : Context → Operator → (op_at : ℕ) → Coded → Gives Coded
one_coded c op op_at x =
    and_then (apply_one c op op_at x.operand) (λ r.
    gives (made r (value_code c x ⨟ plain (one_instr op))))

-- the instruction of an operator whose right operand is a set; IN is the last
abbrev pub set_instr : Operator → Instr
set_instr Plus = Union
set_instr Minus = Diff
set_instr Times = Inter
set_instr Slash = SymDiff
set_instr LessEqual = Subset
set_instr GreaterEqual = Superset
set_instr Equal = Eq
set_instr Unequal = Ne
set_instr other = Member

-- the instruction of an operator on scalars; `=` is the last
abbrev pub scalar_instr : (side : ℕ) → Operator → Instr
scalar_instr b Plus = Add b
scalar_instr b Minus = Sub b
scalar_instr b Times = Mul b
scalar_instr b Div = Quotient b
scalar_instr b Mod = Remainder b
scalar_instr b Unequal = Ne
scalar_instr b Less = Lt
scalar_instr b LessEqual = Le
scalar_instr b Greater = Gt
scalar_instr b GreaterEqual = Ge
scalar_instr b other = Eq

-- the instruction of an operator, by its result's type and its right operand's
abbrev pub two_instr : Scene → Operator → (result right : Place) → Instr
two_instr scene op r t = if is_set_kind (kind_of scene t) then set_instr op else scalar_instr (side_of scene r) op

-- an operator between two values, by its result's type and its right operand's
abbrev pub operation_code : Scene → Operator → (result right : Place) → Part → Part → Part
operation_code scene And r t x y = x ⨟ skip AndJump y
operation_code scene Or r t x y = x ⨟ skip OrJump y
operation_code scene op r t x y = x ⨟ y ⨟ plain (two_instr scene op r t ∷ [])

-- an operator between two operands
abbrev pub two_coded : Context → Operator → (op_at x_at : ℕ) → Coded → (y_at : ℕ) → Coded → Gives Coded
two_coded c op op_at x_at x y_at y =
    and_then (operate c op op_at x.operand x_at y.operand y_at) (λ r.
    gives (made r (operation_code c.scene op (operand_type r) (operand_type y.operand)
    (value_code c (with_char c x)) (value_code c (with_char c y)))))
