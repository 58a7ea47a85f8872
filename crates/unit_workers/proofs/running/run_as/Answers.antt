use denote.Param.Send.{sendable}
use Rattle.std.specs.List.{AllZip}
use Rattle.std.proofs.Common.{subst}
use Rattle.std.proofs.Crossing.{crosses}
use Rattle.dky_search.specs.SeatScopes.{state_of}
use Rattle.stream_split.specs.Streams.{streams_of}
use Rattle.unit_tasks.proofs.Starting.{if_ok}
use Rattle.unit_workers.specs.Ends.{IsEnd, IsFinished}
use Rattle.unit_workers.proofs.Crossing.{job-send}
use Rattle.unit_workers.proofs.Endings.{all_finished}
use Rattle.unit_workers.proofs.Openings.{all_fit, all_undone, numbered, some_jobs}
use Rattle.unit_workers.proofs.running.run_as.Goals as goal

pub do_all-requires-clause-some : goal.do_all-requires-clause-some
do_all-requires-clause-some g c κs within =
    some_jobs c.args.making.now.texts.now (λ j. state_of j.parts.value.scopes.scopes) (λ j. j.parts.value.task) c.in_ok-jobs.jobs.items c.in_ok-jobs.ensures c.main-main.ensures.unit

pub do_all-requires-clause-order : goal.do_all-requires-clause-order
do_all-requires-clause-order g c κs within = numbered c.args.making.now.texts.now (λ j. state_of j.parts.value.scopes.scopes) (λ j. j.parts.value.task) c.in_ok-jobs.jobs.items c.in_ok-jobs.ensures

pub do_all-requires-clause-undone : goal.do_all-requires-clause-undone
do_all-requires-clause-undone g c κs within = all_undone c.args.making.now.texts.now (λ j. state_of j.parts.value.scopes.scopes) (λ j. j.parts.value.task) c.in_ok-jobs.jobs.items c.in_ok-jobs.ensures

pub do_all-requires-clause-fits : goal.do_all-requires-clause-fits
do_all-requires-clause-fits g c κs within = all_fit c.args.making.now.texts.now (λ j. state_of j.parts.value.scopes.scopes) (λ j. j.parts.value.task) c.in_ok-jobs.jobs.items c.in_ok-jobs.ensures

pub do_all-requires-send-J : goal.do_all-requires-send-J
do_all-requires-send-J g c κs within = search (sendable, crosses, job-send) depth 40

pub returns : goal.returns
returns g c =
    if_ok (λ all. AllZip (λ job end. IsEnd g.J.OfTable.table (state_of job.parts.value.scopes.scopes) job.parts.value.task end) c.in_ok-done.done.items all.items)
    (λ all. AllZip (IsFinished c.args.table.now c.args.making.now.texts.now) (streams_of c.args.making.now.texts.now) all.items) c.all_finished.result
    (λ all ends. all_finished c.args.table.now c.args.making.now.texts.now (λ j. state_of j.parts.value.scopes.scopes) (λ j. j.parts.value.task) c.in_ok-jobs.jobs.items c.in_ok-done.done.items all.items
    c.in_ok-jobs.ensures c.in_ok-done.ensures.jobs
    (subst (λ table. AllZip (λ job end. IsEnd table (state_of job.parts.value.scopes.scopes) job.parts.value.task end) c.in_ok-done.done.items all.items) c.requires.this ends)) c.all_finished.ensures
