-- The operators of expressions, and the kinds of the tokens that they are.
use Rattle.m2_base.specs.declared.kind.TokenKind.{TokenKind}
use Rattle.m2_base.specs.declared.kind.TokenKind.TheVariants as kinds
use Rattle.m2_base.specs.declared.trees.operators.Operator.{Operator}
use Rattle.m2_base.specs.declared.trees.operators.Operator.TheVariants.{Equal, Unequal, Less, LessEqual, Greater}
use Rattle.m2_base.specs.declared.trees.operators.Operator.TheVariants.{GreaterEqual, In, Plus, Minus, Or, Times}
use Rattle.m2_base.specs.declared.trees.operators.Operator.TheVariants.{Slash, Div, Mod, And, Not}

-- the operator that a token of this kind is; of kinds that are none nobody asks
abbrev pub operator_of : TokenKind → Operator
operator_of kinds.Equal = Equal
operator_of kinds.Unequal = Unequal
operator_of kinds.Less = Less
operator_of kinds.LessEqual = LessEqual
operator_of kinds.Greater = Greater
operator_of kinds.GreaterEqual = GreaterEqual
operator_of kinds.In = In
operator_of kinds.Plus = Plus
operator_of kinds.Minus = Minus
operator_of kinds.Or = Or
operator_of kinds.Times = Times
operator_of kinds.Slash = Slash
operator_of kinds.Div = Div
operator_of kinds.Mod = Mod
operator_of kinds.And = And
operator_of _ = Not

-- the kind of the tokens that are this operator
abbrev pub operator_kind : Operator → TokenKind
operator_kind Equal = kinds.Equal
operator_kind Unequal = kinds.Unequal
operator_kind Less = kinds.Less
operator_kind LessEqual = kinds.LessEqual
operator_kind Greater = kinds.Greater
operator_kind GreaterEqual = kinds.GreaterEqual
operator_kind In = kinds.In
operator_kind Plus = kinds.Plus
operator_kind Minus = kinds.Minus
operator_kind Or = kinds.Or
operator_kind Times = kinds.Times
operator_kind Slash = kinds.Slash
operator_kind Div = kinds.Div
operator_kind Mod = kinds.Mod
operator_kind And = kinds.And
operator_kind Not = kinds.Not
