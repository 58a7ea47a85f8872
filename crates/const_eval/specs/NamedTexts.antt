-- Constants of the type of strings.
use Rattle.std.specs.Prelude.{◌≡◌, ◌<◌, length}
use Rattle.m2_base.specs.Rows.{natural}
use Rattle.m2_base.specs.Standard.{text_type}
use Rattle.m2_base.specs.States.{Frame}
use Rattle.m2_base.specs.declared.operands.Operand.{Operand}
use Rattle.m2_base.specs.declared.operands.Operand.TheVariants.{Constant}

-- a constant of the type of strings has the number of one of the unit's names
abbrev pub IsNamedText : Frame → Operand → Type 0
IsNamedText f (Constant t v) = t ≡ text_type → natural v < length f.setting.texts.names
IsNamedText f other = Unit {0}
