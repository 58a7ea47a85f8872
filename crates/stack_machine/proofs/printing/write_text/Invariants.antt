use Rattle.stack_machine.proofs.Written.{Printing}
use Rattle.stack_machine.proofs.printing.write_text.Given as goal

abbrev pub invariant-loop : goal.invariant-loop
invariant-loop g l =
    Printing l.cells l.n l.counter l.fn.at l.next (g.P.Sink.written l.fn.print) (g.P.Sink.written l.print) (g.P.Sink.faults l.fn.print) (g.P.Sink.faults l.print)
