use Rattle.std.proofs.Common.{◌≡◌, ◌-◌}
use Rattle.stack_machine.specs.Step.{number_out}
use Rattle.stack_machine.proofs.flow.outer_number.Given as goal

abbrev pub invariant-loop : goal.invariant-loop
invariant-loop l = number_out l.frames (l.h - l.counter) l.reached l.next ≡ number_out l.frames l.h l.fn.number l.fn.link
