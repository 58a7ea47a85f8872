-- Which types the variables have that standard procedures change.
use Rattle.std.specs.Prelude.{Bool, is_some}
use Rattle.m2_base.specs.Statics.Contexts.{Scene}
use Rattle.m2_base.specs.Statics.Operations.{is_set_kind}
use Rattle.m2_base.specs.Statics.Types.{kind_of, range_of}
use Rattle.m2_base.specs.declared.rows.Place.{Place}
use Rattle.block_code.specs.StandardProcedures.{is_pointer_type}
use Rattle.expr_sem.specs.declared.variable_arguments.Wanted.{Wanted}
use Rattle.expr_sem.specs.declared.variable_arguments.Wanted.TheVariants.{Ordinal, Set, Pointer}

-- a type is as wanted
abbrev pub is_wanted : Scene → Wanted → Place → Bool
is_wanted scene Ordinal t = is_some (range_of scene t)
is_wanted scene Set t = is_set_kind (kind_of scene t)
is_wanted scene Pointer t = is_pointer_type (kind_of scene t)
