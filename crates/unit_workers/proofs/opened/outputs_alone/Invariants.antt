use Rattle.std.proofs.Common.{◌≡◌}
use Rattle.unit_workers.specs.Ends.{outputs_in}
use Rattle.unit_workers.proofs.opened.outputs_alone.Given as goal

-- the outputs so far
abbrev pub invariant-loop-finished : goal.invariant-loop-finished
invariant-loop-finished l = l.outputs.items ≡ outputs_in l.yielded
