use Rattle.std.proofs.Common.{◌≡◌, ◌≤◌}
use Rattle.std.specs.Prelude.{replicate}
use Rattle.m2_io.specs.Written.{with_bytes}
use Rattle.stack_machine.proofs.printing.write_blanks.Given as goal

abbrev pub invariant-loop : goal.invariant-loop
invariant-loop g l = record {
  written : g.P.Sink.written l.print ≡ with_bytes (g.P.Sink.written l.fn.print) (replicate l.counter 32);
  later : g.P.Sink.faults l.fn.print ≤ g.P.Sink.faults l.print;
}
