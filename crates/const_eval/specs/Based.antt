-- Operands with the bases of their types.
use Rattle.std.specs.Prelude.{◌≡◌}
use Rattle.m2_base.specs.States.{Frame}
use Rattle.m2_base.specs.Statics.Contexts.{Context}
use Rattle.m2_base.specs.Statics.Operations.{base_type}
use Rattle.type_rules.specs.Scenes.{IsThere}
use Rattle.const_eval.specs.Sites.{IsOperand}
use Rattle.const_eval.specs.declared.operators.Based.{Based}

-- the base is that of the operand's type
abbrev pub IsBased : Context → Based → Type 0
IsBased c x = x.base ≡ base_type c x.operand

-- the operand may stand, and its base can be asked for
pub record IsBasedHere (f : Frame) (x : Based) : Type 0 where
  pub operand : IsOperand f x.operand
  pub base : IsThere f x.base
