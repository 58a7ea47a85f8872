use Rattle.std.proofs.Common.{refl, sym}
use Rattle.stmt_sem.proofs.flows.Flow.exit.Goals as goal

pub returns : goal.returns
returns c ns = record { there = (tt, λ t at out. sym c.jump_size.ensures); flow_is = λ t. refl }
