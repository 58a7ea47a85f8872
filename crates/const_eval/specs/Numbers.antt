-- Whole constants beside numbers of other types.
use Rattle.std.specs.Prelude.{Bool, false, ◌&&◌}
use Rattle.m2_base.specs.Rows.{is_same_place}
use Rattle.m2_base.specs.Standard.{whole}
use Rattle.m2_base.specs.Statics.Compatible.{is_integer_or_cardinal}
use Rattle.m2_base.specs.declared.operands.Operand.{Operand}
use Rattle.m2_base.specs.declared.operands.Operand.TheVariants.{Constant}
use Rattle.m2_base.specs.declared.rows.Place.{Place}

-- a whole constant beside a base that is INTEGER or CARDINAL
abbrev pub takes_base : Operand → Place → Bool
takes_base (Constant u v) t = is_same_place u whole && is_integer_or_cardinal t
takes_base x t = false
