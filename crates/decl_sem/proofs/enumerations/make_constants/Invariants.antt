use Rattle.decl_sem.proofs.Constants.{HasConstants}
use Rattle.decl_sem.proofs.enumerations.make_constants.Given as goal

abbrev pub invariant-loop-value : goal.invariant-loop-value
invariant-loop-value l = HasConstants l.site l.fn.made l.made l.of l.names l.value
