use Rattle.std.proofs.Common.{arith, rules}
use Rattle.std.proofs.lemmas.Result.{on_err_weaker}
use Rattle.stack_machine.proofs.Written.{on_err, digits_front, digits_part}
use Rattle.stack_machine.proofs.printing.+write_digits.Goals as goal

pub returns-in_err-write_digits-clause-err : goal.returns-in_err-write_digits-clause-err
returns-in_err-write_digits-clause-err g m c =
    let low = c.if-n-lt10.false in
    let fits = c.ranges.n in
    on_err c.from_residual.result (digits_front (g.P.Sink.written c.args.print.now) (g.P.Sink.written c.write_digits.new.print) c.args.n (omega (arith, low)) (omega (arith, fits)) c.in_err-write_digits.ensures.err)

pub returns-clause-err : goal.returns-clause-err
returns-clause-err g m c =
    let low = c.if-n-lt10.false in
    let fits = c.ranges.n in
    on_err_weaker c.write_byte-2.result (digits_part (g.P.Sink.written c.args.print.now) (g.P.Sink.written c.write_digits.new.print) (g.P.Sink.written c.write_byte-2.new.print) c.args.n (omega (arith, low)) (omega (arith, fits)) c.in_ok-write_digits.ensures.ok) (search (rules, c.write_byte-2.ensures.err))
