use Rattle.std.proofs.Common.{◌≡◌, ◌≤◌}
use Rattle.std.specs.Prelude.{IfSome}
use Rattle.stack_machine.specs.State.{state_of, program_of}
use Rattle.stack_machine.specs.Ready.{Ready}
use Rattle.stack_machine.proofs.Running.{Come}
use Rattle.stack_machine.proofs.run.steps.Given as goal

abbrev pub invariant-loop : goal.invariant-loop
invariant-loop g l = record {
  ready : Ready l.code l.core;
  told : IfSome (g.K.Source.left l.fn.keys) (λ input. Come (program_of l.code) l.counter (state_of l.fn.core) (state_of l.core) input (g.P.Sink.written l.fn.print) (g.P.Sink.written l.print) (g.K.Source.left l.keys));
  prints : g.P.Sink.faults l.fn.print ≤ g.P.Sink.faults l.print;
  reads : g.K.Source.faults l.fn.keys ≤ g.K.Source.faults l.keys;
}
