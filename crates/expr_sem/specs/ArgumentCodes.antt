-- The code of an argument, and parameters, as the definitions see them.
use Rattle.std.specs.Prelude.{List, Option, Some, None}
use Rattle.std.specs.Option.{IfSome}
use Rattle.m2_base.specs.States.{Frame}
use Rattle.m2_base.specs.Statics.TypeParts as parts
use Rattle.expr_sem.specs.Fragments.{IsIn, part}
use Rattle.block_code.specs.Parts.{Part}
use Rattle.expr_sem.specs.declared.arguments.Parameter.{Parameter}
use Rattle.expr_sem.specs.declared.fragments.Fragment.{Fragment}
use Rattle.expr_sem.specs.declared.fragments.Node.{Node}

-- the code of an argument; none of what is in error
abbrev pub argument_in : List Node → Option Fragment → Option Part
argument_in ns None = None
argument_in ns (Some f) = Some (part ns f)

-- the code of an argument is among these
abbrev pub IsArgument : Frame → List Node → Option Fragment → Type 0
IsArgument f ns x = IfSome x (λ code. IsIn ns code)

abbrev pub parameter_view : Parameter → parts.Parameter
parameter_view p = record { typ = p.of; by_ref = p.by_ref }
