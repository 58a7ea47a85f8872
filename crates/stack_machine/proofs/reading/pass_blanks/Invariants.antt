use Rattle.std.proofs.Common.{◌≡◌, ◌≤◌}
use Rattle.std.specs.Prelude.{IfSome}
use Rattle.stack_machine.specs.InOut.{is_blank}
use Rattle.stack_machine.specs.Readings.{IsOver, budget}
use Rattle.stack_machine.proofs.Taking.{Passing}
use Rattle.stack_machine.proofs.reading.pass_blanks.Given as goal

abbrev pub invariant-loop-ahead : goal.invariant-loop-ahead
invariant-loop-ahead g l = record {
  told : IfSome (g.K.Source.left l.fn.keys) (λ x. IsOver l.fn.ahead x → Passing is_blank l.fn.ahead x l.ahead (g.K.Source.left l.keys));
  later : g.K.Source.faults l.fn.keys ≤ g.K.Source.faults l.keys;
}

abbrev pub decreases-loop-ahead : goal.decreases-loop-ahead
decreases-loop-ahead g l = budget l.ahead
