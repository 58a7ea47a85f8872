use Rattle.decl_sem.proofs.Namings.{IsNamedUpTo}
use Rattle.decl_sem.proofs.shapes.name_all.Given as goal

abbrev pub invariant-loop-position : goal.invariant-loop-position
invariant-loop-position l = IsNamedUpTo l.fn.names.items l.names.items l.item l.first l.shapes l.position
