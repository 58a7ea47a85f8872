use Rattle.std.proofs.Common.{sym}
use Rattle.stack_machine.proofs.Pushing.{none_asked}
use Rattle.stack_machine.proofs.Taking.{on_err, sign_fails, signed_none, signed_some}
use Rattle.stack_machine.proofs.reading.take_sign.Goals as goal

pub returns-in-None-clause-signed : goal.returns-in-None-clause-signed
returns-in-None-clause-signed g c = signed_none c.args.kind c.args.ahead.now (g.K.Source.left c.args.keys.now) (sym c.in-None.ensures)

pub returns-in_err-advance-in-Some-clause-err : goal.returns-in_err-advance-in-Some-clause-err
returns-in_err-advance-in-Some-clause-err g c = on_err c.from_residual.result _ (sign_fails c.args.ahead.now (g.K.Source.left c.args.keys.now) (g.K.Source.left c.advance.new.keys) c.in_err-advance-in-Some.ensures.err)

pub returns-in_err-advance-in-Some-clause-failed : goal.returns-in_err-advance-in-Some-clause-failed
returns-in_err-advance-in-Some-clause-failed g c = on_err c.from_residual.result _ c.in_err-advance-in-Some.ensures.failed

pub returns-in_err-advance-in-Some-clause-signed : goal.returns-in_err-advance-in-Some-clause-signed
returns-in_err-advance-in-Some-clause-signed g c = none_asked c.from_residual.result _ c.from_residual.ensures.0

pub returns-in_ok-advance-in-Some-clause-signed : goal.returns-in_ok-advance-in-Some-clause-signed
returns-in_ok-advance-in-Some-clause-signed g c =
    signed_some c.args.kind c.args.ahead.now c.advance.new.ahead c.in-Some.byte (g.K.Source.left c.args.keys.now) (g.K.Source.left c.advance.new.keys) (sym c.in-Some.ensures) c.in_ok-advance-in-Some.ensures.moves
