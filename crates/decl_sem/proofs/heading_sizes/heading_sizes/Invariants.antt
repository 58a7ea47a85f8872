use Rattle.decl_sem.proofs.HeadingSums.{IsSumUpTo}
use Rattle.decl_sem.proofs.heading_sizes.heading_sizes.Given as goal

abbrev pub invariant-loop-section : goal.invariant-loop-section
invariant-loop-section l = IsSumUpTo l.sizes l.sections l.section-index
