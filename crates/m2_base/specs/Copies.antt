-- What a procedure's body copies first, as plain data.
use Rattle.m2_base.specs.Statics.Effects as plain
use Rattle.m2_base.specs.Statics.Effects.{open_copy, own_copy}
use Rattle.m2_base.specs.declared.copies.ParamCopy.{ParamCopy}
use Rattle.m2_base.specs.declared.copies.ParamCopy.TheVariants.{Open, Own}

-- what is copied
abbrev pub copy_view : ParamCopy → plain.ParamCopy
copy_view (Own own cell size) = own_copy own cell size
copy_view (Open cell size) = open_copy cell size
