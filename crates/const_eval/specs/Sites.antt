-- Which operands may stand at a place.
use Rattle.std.specs.Prelude.{ℕ, ◌<◌, List, length}
use Rattle.m2_base.specs.Rows.{IsValue}
use Rattle.m2_base.specs.States.{Frame}
use Rattle.m2_base.specs.declared.operands.Operand.{Operand}
use Rattle.m2_base.specs.declared.operands.Operand.TheVariants.{Computed, Constant, ModuleName, NamedType, Procedure}
use Rattle.m2_base.specs.declared.operands.Operand.TheVariants.{StringConstant, Variable}
use Rattle.type_rules.specs.Scenes.{IsThere}
use Rattle.const_eval.specs.declared.calls.Call.{Call}
use Rattle.const_eval.specs.declared.calls.Call.TheVariants.{OfType, OfTypeAndValue, OfValue}
use Rattle.const_eval.specs.declared.arguments.Arguments.{Arguments}
use Rattle.const_eval.specs.declared.arguments.Shape.{Shape}
use Rattle.const_eval.specs.declared.arguments.Shape.TheVariants.{One, Two}

-- An operand that may stand in an expression: its type can be asked for, its value is one that a row has room for, its
-- name is one of the unit's, and its module stands before.
abbrev pub IsOperand : Frame → Operand → Type 0
IsOperand f (Constant t v) = IsThere f t × IsValue v
IsOperand f (StringConstant n l) = n < length f.setting.texts.names
IsOperand f (Computed t) = IsThere f t
IsOperand f (Variable t) = IsThere f t
IsOperand f (NamedType t) = IsThere f t
IsOperand f (Procedure n t k s) = IsThere f t
IsOperand f (ModuleName s) = s < f.setting.fills
IsOperand f other = Unit {0}

-- a string's number is one of these names
abbrev pub IsNamed : List (List ℕ) → Operand → Type 0
IsNamed names (StringConstant n l) = n < length names
IsNamed names other = Unit {0}

-- a constant's value is one that a row has room for
abbrev pub IsSmallConstant : Operand → Type 0
IsSmallConstant (Constant t v) = IsValue v
IsSmallConstant other = Unit {0}

-- up to two arguments that may stand
abbrev pub IsShape : Frame → Shape → Type 0
IsShape f (One a) = IsOperand f a.operand
IsShape f (Two a b) = IsOperand f a.operand × IsOperand f b.operand
IsShape f other = Unit {0}

-- what is kept of the arguments may stand
abbrev pub AreArguments : Frame → Arguments → Type 0
AreArguments f args = IsShape f args.shape

-- the arguments that a call takes may stand
abbrev pub IsCall : Frame → Call → Type 0
IsCall f (OfValue function a) = IsOperand f a.operand
IsCall f (OfType function a) = IsOperand f a.operand
IsCall f (OfTypeAndValue t a) = IsOperand f t.operand × IsOperand f a.operand
IsCall f other = Unit {0}
