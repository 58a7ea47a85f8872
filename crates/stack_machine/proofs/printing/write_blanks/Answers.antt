use Rattle.std.proofs.Common.{arith}
use Rattle.stack_machine.proofs.Written.{on_err, blanks_part, rose_from}
use Rattle.stack_machine.proofs.printing.write_blanks.Goals as goal

pub returns-in_err-write_byte-clause-err : goal.returns-in_err-write_byte-clause-err
returns-in_err-write_byte-clause-err g c =
    on_err c.from_residual.result (blanks_part (g.P.Sink.written c.args.print.now) (g.P.Sink.written c.loop.print) (g.P.Sink.written c.write_byte.new.print) c.args.n c.loop.counter c.loop-test.true c.loop.invariant.written c.in_err-write_byte.ensures.err)

pub returns-in_err-write_byte-clause-failed : goal.returns-in_err-write_byte-clause-failed
returns-in_err-write_byte-clause-failed g c =
    on_err c.from_residual.result (rose_from (g.P.Sink.faults c.args.print.now) (g.P.Sink.faults c.loop.print) (g.P.Sink.faults c.write_byte.new.print) c.loop.invariant.later c.in_err-write_byte.ensures.failed)

pub returns-in_err-write_byte-clause-later : goal.returns-in_err-write_byte-clause-later
returns-in_err-write_byte-clause-later g c = let a = c.loop.invariant.later in let b = c.write_byte.ensures.later in omega (arith, a, b)
