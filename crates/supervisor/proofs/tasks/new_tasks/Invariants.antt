use Rattle.std.specs.List.{AllZip}
use Rattle.stream_split.specs.Views.{stream_view}
use Rattle.unit_tasks.specs.Starts.{IsNew}
use Rattle.supervisor.proofs.tasks.new_tasks.Given as goal

-- the tasks so far
abbrev pub invariant-loop-stream : goal.invariant-loop-stream
invariant-loop-stream l = AllZip (λ p t. IsNew (stream_view p.0) p.1 t) l.yielded l.tasks.items
