use Rattle.std.proofs.Common.{ap, refl}
use Rattle.m2_base.specs.Gives.{gives}
use Rattle.expr_sem.proofs.Operating.{fragment_made}
use Rattle.block_code.specs.Cases.{no_case}
use Rattle.block_code.specs.Flows.{straight}
use Rattle.stmt_sem.proofs.Flowed.{by_answer, made_after, of_coding}
use Rattle.stmt_sem.proofs.SimpleGiven.{fragment_wanted}
use Rattle.stmt_sem.proofs.simple_statements.no_case_else.Goals as goal

pub returns-in_err-trap : goal.returns-in_err-trap
returns-in_err-trap c state notes s = fragment_wanted state notes s c.from_residual.result c.from_residual.ensures.0 c.in_err-trap.ensures.made

pub straight-requires-clause-sound : goal.straight-requires-clause-sound
straight-requires-clause-sound c = c.in_ok-trap.ensures.made.grows.sound c.requires.sound

pub returns : goal.returns
returns c state notes s =
    let one = of_coding _ (fragment_made state notes s c.in_ok-trap.trap no_case (λ k. no_case) c.in_ok-trap.ensures.made (λ k. refl)) in
    by_answer c.straight.result c.answered.result c.answered.ensures (made_after (λ k. gives no_case) (λ p. straight p) c.straight.result one c.straight.ensures (λ p same cell. ap straight (same cell)))
