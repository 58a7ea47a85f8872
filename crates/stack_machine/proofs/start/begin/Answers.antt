use Rattle.stack_machine.proofs.Starting.{never_halts, never_traps}
use Rattle.stack_machine.proofs.start.begin.Goals as goal

pub returns-in-Halts-clause-begun : goal.returns-in-Halts-clause-begun
returns-in-Halts-clause-begun c = absurd (never_halts _ _ c.in-Halts.ensures.comes.0)

pub returns-in-Traps-clause-begun : goal.returns-in-Traps-clause-begun
returns-in-Traps-clause-begun c = absurd (never_traps _ _ _ c.in-Traps.ensures.comes.0)
