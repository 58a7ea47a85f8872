use Rattle.std.proofs.Common.{◌≡◌, ◌≤◌}
use Rattle.std.specs.Prelude.{IfSome}
use Rattle.stack_machine.specs.Readings.{IsOver, budget, most}
use Rattle.stack_machine.proofs.Taking.{Digiting}
use Rattle.stack_machine.proofs.reading.take_digits.Given as goal

abbrev pub invariant-loop-byte : goal.invariant-loop-byte
invariant-loop-byte g l = record {
  told : IfSome (g.K.Source.left l.fn.keys) (λ x. IsOver l.fn.ahead x → Digiting l.number l.fn.ahead x l.ahead (g.K.Source.left l.keys));
  most : IfSome l.number (λ n. n ≤ most);
  later : g.K.Source.faults l.fn.keys ≤ g.K.Source.faults l.keys;
}

abbrev pub decreases-loop-byte : goal.decreases-loop-byte
decreases-loop-byte g l = budget l.ahead
