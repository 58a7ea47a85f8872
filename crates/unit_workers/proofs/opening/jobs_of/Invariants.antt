use Rattle.std.specs.Prelude.{◌≡◌}
use Rattle.std.specs.List.{AllZip}
use Rattle.dky_search.specs.SeatScopes.{state_of}
use Rattle.stream_split.specs.Views.{stream_view}
use Rattle.unit_tasks.specs.Starts.{IsNew}
use Rattle.unit_workers.specs.Starts.{first_state}
use Rattle.unit_workers.proofs.opening.jobs_of.Given as goal

-- the jobs so far
abbrev pub invariant-loop-stream : goal.invariant-loop-stream
invariant-loop-stream g l =
    AllZip (λ p job. IsNew (stream_view p.0.0) p.0.1 job.parts.value.task × (state_of job.parts.value.scopes.scopes ≡ first_state l.table p.1)) l.yielded l.jobs.items
