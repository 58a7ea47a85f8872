use Rattle.std.proofs.Common.{Some, ap}
use Rattle.expr_sem.specs.ArgumentCodes.{IsArgument, argument_in}
use Rattle.expr_sem.proofs.Operating.{made_wanted, value_grown}
use Rattle.expr_sem.proofs.answers.passed_as.Goals as goal

pub returns-in-Ok : goal.returns-in-Ok
returns-in-Ok c state notes s from to p made =
    let m = (rw c.in-Ok.is at made) in
    value_grown state notes s _ IsArgument argument_in (λ k. Some p) m.grows m.made.there (λ k. ap (λ q. Some q) m.made.part_is)

pub returns-in-Err : goal.returns-in-Err
returns-in-Err c state notes s from to p made = made_wanted state notes s (rw c.in-Err.is at made) _
