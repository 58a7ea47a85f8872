use Rattle.std.proofs.Common.{◌≡◌, ◌-◌}
use Rattle.stack_machine.specs.Step.{base_out}
use Rattle.stack_machine.proofs.flow.outer_base.Given as goal

abbrev pub invariant-loop : goal.invariant-loop
invariant-loop l = base_out l.frames (l.h - l.counter) l.first l.next ≡ base_out l.frames l.h l.fn.base l.fn.link
