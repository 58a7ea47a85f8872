use Rattle.std.specs.Prelude.{◌≡◌, true, All}
use Rattle.std.specs.List.{AllZip}
use Rattle.std.specs.Vec.Iter.{into_iter_items}
use Rattle.dky_search.specs.SeatScopes.{state_of}
use Rattle.task_state.specs.Progress.{is_over}
use Rattle.unit_workers.specs.Ends.{IsEnd}
use Rattle.unit_workers.proofs.finishing.all_finished.Given as goal

-- what the jobs so far leave; the others are done too
abbrev pub invariant-loop-job : goal.invariant-loop-job
invariant-loop-job g l =
    (goal.iterator-loop-job g).can_next l.job-iterator × (goal.iterator-loop-job g).is_finite l.job-iterator
    × AllZip (λ job end. IsEnd g.J.OfTable.table (state_of job.parts.value.scopes.scopes) job.parts.value.task end) l.yielded l.all.items × All (λ job. is_over job.parts.value.task ≡ true) (into_iter_items l.job-iterator)
