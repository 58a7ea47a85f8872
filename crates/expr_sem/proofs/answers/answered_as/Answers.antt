use Rattle.std.proofs.Common.{ap}
use Rattle.block_code.specs.Coded.{coded}
use Rattle.expr_sem.specs.Codings.{IsCoded, coded_in}
use Rattle.expr_sem.proofs.Operating.{made_wanted, value_grown}
use Rattle.expr_sem.proofs.answers.answered_as.Goals as goal

pub returns-in-Ok : goal.returns-in-Ok
returns-in-Ok c state notes s from to p there made =
    let m = (rw c.in-Ok.is at made) in
    value_grown state notes s _ IsCoded coded_in (λ k. coded c.args.operand p) m.grows (record { operand = there; code = m.made.there; high = tt }) (λ k. ap (λ q. coded c.args.operand q) m.made.part_is)

pub returns-in-Err : goal.returns-in-Err
returns-in-Err c state notes s from to p there made = made_wanted state notes s (rw c.in-Err.is at made) _
