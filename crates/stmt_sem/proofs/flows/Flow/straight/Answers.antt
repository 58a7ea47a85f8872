use Rattle.std.proofs.Common.{refl}
use Rattle.stmt_sem.proofs.flows.Flow.straight.Goals as goal

pub returns : goal.returns
returns c = record { there = (c.requires.there, λ t at out. c.in_ok-size.ensures t at); flow_is = λ t. refl }
