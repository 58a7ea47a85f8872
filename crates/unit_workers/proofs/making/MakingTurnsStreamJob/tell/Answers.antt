use Rattle.std.proofs.Common.{ap, subst, sym, ◌∙◌, ◌+◌}
use Rattle.dky_search.specs.SeatScopes.{state_of}
use Rattle.m2_base.specs.States.{fills_of}
use Rattle.task_state.specs.Progress.{IsAsFar, is_over}
use Rattle.unit_workers.specs.Jobs.{SeesAll, Stays, same_stays}
use Rattle.unit_workers.proofs.Turning.{told_sees, told_stays}
use Rattle.unit_workers.proofs.making.MakingTurnsStreamJob.tell.Goals as goal

pub returns-clause-before : goal.returns-clause-before
returns-clause-before g c =
    let from = c.deref_mut-from in let parts = from.result.now in (
      subst (λ p. Stays (state_of p.scopes.scopes) p.task (state_of c.tell.new.self.scopes) parts.task) from.ensures.value
          (subst (λ st. Stays (state_of parts.scopes.scopes) parts.task st parts.task) (sym c.tell.ensures.state) same_stays),
      ap (λ p. is_over p.task) from.ensures.value ∙ c.requires.done,
    )

pub returns-clause-job : goal.returns-clause-job
returns-clause-job g c =
    let to = c.deref_mut-to in (
      subst (λ p. Stays (state_of p.scopes.scopes) p.task (state_of c.tell.new.to.scopes) to.result.now.task) to.ensures.value (told_stays _ _ _ to.result.now.task c.tell.ensures.told),
      ap (λ p. is_over p.task) to.ensures.value,
    )

pub returns-clause-ready : goal.returns-clause-ready
returns-clause-ready g c =
    let from = c.deref_mut-from in let to = c.deref_mut-to in
    let one = sym from.ensures.value in let two = sym to.ensures.value in
    let next = ap (λ p. fills_of (state_of p.scopes.scopes)) to.ensures.value ∙ c.requires.next ∙ ap (λ p. fills_of (state_of p.scopes.scopes) + 1) one in
    told_sees _ _ _ from.result.now.task c.tell.ensures.told next
    (subst (λ p. IsAsFar (state_of p.scopes.scopes) p.task) one c.requires.fits.0.far) (ap (λ p. is_over p.task) from.ensures.value ∙ c.requires.done) c.filled-filled.ensures.sound.own_seen
    (subst (λ p. SeesAll (state_of p.scopes.scopes)) one c.requires.ready)
