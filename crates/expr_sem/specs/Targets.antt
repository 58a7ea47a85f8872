-- A procedure as code names it, as the definitions see it.
use Rattle.block_code.specs.ProcedureNames as names
use Rattle.block_code.specs.ProcedureNames.{target}
use Rattle.expr_sem.specs.declared.procedure_names.Target.{Target}

abbrev pub target_view : Target → names.Target
target_view t = target t.of t.number
