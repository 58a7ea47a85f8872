use Rattle.std.proofs.Common.{◌≡◌, arith, rules}
use Rattle.stack_machine.specs.declared.printing.Char.TheVariants as chars
use Rattle.stack_machine.specs.InOut.{char_at}
use Rattle.stack_machine.proofs.Written.{on_err, starts, goes, misses, ends, all_printed, fails}
use Rattle.stack_machine.proofs.printing.write_text.Goals as goal

pub returns-in-Missing-clause-whole : goal.returns-in-Missing-clause-whole
returns-in-Missing-clause-whole g c =
    let is : chars.Missing ≡ char_at c.args.cells.now c.loop.next = search rules in
    (misses c.args.cells.now c.args.n c.loop.counter c.args.at c.loop.next (g.P.Sink.written c.args.print.now) (g.P.Sink.written c.loop.print) (g.P.Sink.faults c.args.print.now) (g.P.Sink.faults c.loop.print) c.loop-test.true c.loop.invariant is).whole_is

pub returns-in-Missing-clause-ok : goal.returns-in-Missing-clause-ok
returns-in-Missing-clause-ok g c =
    let is : chars.Missing ≡ char_at c.args.cells.now c.loop.next = search rules in
    (misses c.args.cells.now c.args.n c.loop.counter c.args.at c.loop.next (g.P.Sink.written c.args.print.now) (g.P.Sink.written c.loop.print) (g.P.Sink.faults c.args.print.now) (g.P.Sink.faults c.loop.print) c.loop-test.true c.loop.invariant is).written

pub returns-in-End-clause-whole : goal.returns-in-End-clause-whole
returns-in-End-clause-whole g c =
    let is : chars.End ≡ char_at c.args.cells.now c.loop.next = search rules in
    (ends c.args.cells.now c.args.n c.loop.counter c.args.at c.loop.next (g.P.Sink.written c.args.print.now) (g.P.Sink.written c.loop.print) (g.P.Sink.faults c.args.print.now) (g.P.Sink.faults c.loop.print) c.loop-test.true c.loop.invariant is).whole_is

pub returns-in-End-clause-ok : goal.returns-in-End-clause-ok
returns-in-End-clause-ok g c =
    let is : chars.End ≡ char_at c.args.cells.now c.loop.next = search rules in
    (ends c.args.cells.now c.args.n c.loop.counter c.args.at c.loop.next (g.P.Sink.written c.args.print.now) (g.P.Sink.written c.loop.print) (g.P.Sink.faults c.args.print.now) (g.P.Sink.faults c.loop.print) c.loop-test.true c.loop.invariant is).written

pub returns-in_err-write_byte-in-Byte-clause-err : goal.returns-in_err-write_byte-in-Byte-clause-err
returns-in_err-write_byte-in-Byte-clause-err g c =
    let is : chars.Byte c.in-Byte.byte ≡ char_at c.args.cells.now c.loop.next = search rules in
    on_err c.from_residual.result (fails c.args.cells.now c.args.n c.loop.counter c.args.at c.loop.next (g.P.Sink.written c.args.print.now) (g.P.Sink.written c.loop.print) (g.P.Sink.written c.write_byte.new.print) (g.P.Sink.faults c.args.print.now) (g.P.Sink.faults c.loop.print) c.in-Byte.byte
    c.loop-test.true c.loop.invariant is c.in_err-write_byte-in-Byte.ensures.err)

pub loop-preserved : goal.loop-preserved
loop-preserved g c =
    let is : chars.Byte c.in-Byte.byte ≡ char_at c.args.cells.now c.loop.next = search rules in
    goes c.args.cells.now c.args.n c.loop.counter c.args.at c.loop.next (g.P.Sink.written c.args.print.now) (g.P.Sink.written c.loop.print) (g.P.Sink.written c.write_byte.new.print) (g.P.Sink.faults c.args.print.now) (g.P.Sink.faults c.loop.print) (g.P.Sink.faults c.write_byte.new.print) c.in-Byte.byte
    c.loop-test.true c.loop.invariant is c.in_ok-write_byte-in-Byte.ensures.ok c.write_byte.ensures.later

pub loop-init : goal.loop-init
loop-init g c = starts c.args.cells.now c.args.n c.args.at (g.P.Sink.written c.args.print.now) (g.P.Sink.faults c.args.print.now)

pub returns-clause-whole : goal.returns-clause-whole
returns-clause-whole g c = let over = c.loop-test.false in (all_printed c.args.cells.now c.args.n c.loop.counter c.args.at c.loop.next (g.P.Sink.written c.args.print.now) (g.P.Sink.written c.loop.print) (g.P.Sink.faults c.args.print.now) (g.P.Sink.faults c.loop.print) (omega (arith, over)) c.loop.invariant).whole_is

pub returns-clause-ok : goal.returns-clause-ok
returns-clause-ok g c = let over = c.loop-test.false in (all_printed c.args.cells.now c.args.n c.loop.counter c.args.at c.loop.next (g.P.Sink.written c.args.print.now) (g.P.Sink.written c.loop.print) (g.P.Sink.faults c.args.print.now) (g.P.Sink.faults c.loop.print) (omega (arith, over)) c.loop.invariant).written
