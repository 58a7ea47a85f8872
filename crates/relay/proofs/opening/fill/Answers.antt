use Rattle.std.proofs.Common.{◌≡◌, ◌∙◌, false, All, ap, refl, subst, sym, length, map}
use Rattle.crossbeam_queue.specs.Passes.{view}
use Rattle.relay.specs.Places.{numbers_to}
use Rattle.relay.specs.Hands.{jobs_of, many}
use Rattle.relay.proofs.Dealt.{Coming, first, step, room, ends, next, undone}
use Rattle.m2_base.proofs.Without.{none_of}
use Rattle.relay.proofs.opening.fill.Goals as goal

pub bear-requires-clause-next : goal.bear-requires-clause-next
bear-requires-clause-next g c =
    let r = c.args.relay.now in let number = g.J.Job.number in
    let order : map number (jobs_of r) ≡ numbers_to (many r) =
    ap (map number) c.requires.jobs ∙ c.requires.order ∙ ap (λ js. numbers_to (length js)) (sym c.requires.jobs) in
    next number (jobs_of r) (view c.loop-job.pass) c.in-Some.job _ order
    (subst (λ js. Coming (jobs_of r) (view c.loop-job.pass) js) c.in-Some.ensures.steps.0 c.loop-job.invariant.3)

pub loop-job-init : goal.loop-job-init
loop-job-init g c = (
  tt,
  tt,
  (refl, refl, refl),
  first (jobs_of c.args.relay.now) (view c.args.pass.now) _ c.requires.pass.1
      (c.into_iter-job-iterator.ensures.into_iter_gives.0 ∙ sym c.requires.jobs),
)

pub bear-requires-clause-room : goal.bear-requires-clause-room
bear-requires-clause-room g c =
    room (jobs_of c.args.relay.now) (view c.loop-job.pass) c.in-Some.job _
    (subst (λ js. Coming (jobs_of c.args.relay.now) (view c.loop-job.pass) js) c.in-Some.ensures.steps.0 c.loop-job.invariant.3)

pub bear-requires-clause-undone : goal.bear-requires-clause-undone
bear-requires-clause-undone g c =
    let done = g.J.Job.done in
    undone done (jobs_of c.args.relay.now) (view c.loop-job.pass) c.in-Some.job _
    (subst (λ js. All (λ job. done job ≡ false) js) (sym c.requires.jobs) c.requires.undone)
    (subst (λ js. Coming (jobs_of c.args.relay.now) (view c.loop-job.pass) js) c.in-Some.ensures.steps.0 c.loop-job.invariant.3)

pub loop-job-preserved : goal.loop-job-preserved
loop-job-preserved g c =
    let inv = c.loop-job.invariant in let same = c.bear.ensures.pass in (
      tt,
      tt,
      (same.0 ∙ inv.2.0, same.1 ∙ inv.2.1, same.2 ∙ inv.2.2),
      step (jobs_of c.args.relay.now) (view c.loop-job.pass) _ c.in-Some.job _
          (subst (λ js. Coming (jobs_of c.args.relay.now) (view c.loop-job.pass) js) c.in-Some.ensures.steps.0 inv.3) c.bear.ensures.view,
    )

pub loop-job-smaller : goal.loop-job-smaller
loop-job-smaller g c = (c.in-Some.ensures.goes.on tt).2

pub returns-clause-view : goal.returns-clause-view
returns-clause-view g c =
    let none = none_of _ (sym c.loop-job.job-iterator.rest.ok.0 ∙ c.in-None.ensures.steps.0) in
    ends (jobs_of c.args.relay.now) (view c.loop-job.pass) _ none c.loop-job.invariant.3
