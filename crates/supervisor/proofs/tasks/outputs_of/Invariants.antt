use Rattle.std.specs.List.{AllZip}
use Rattle.supervisor.specs.Stands.{Leaves}
use Rattle.supervisor.proofs.tasks.outputs_of.Given as goal

-- what the tasks so far leave
abbrev pub invariant-loop-task : goal.invariant-loop-task
invariant-loop-task l = AllZip Leaves l.yielded l.outputs.items
