use Rattle.std.proofs.Common.{subst, sym}
use Rattle.dky_search.specs.SeatScopes.{state_of}
use Rattle.relay.specs.Ends.{EndsIt}
use Rattle.task_state.specs.Progress.{is_over}
use Rattle.unit_workers.specs.Jobs.{SeesAll, Stays}
use Rattle.unit_workers.proofs.Turning.{ends_it, turn_stays}
use Rattle.unit_workers.proofs.making.MakingTurnsStreamJob.turn.Goals as goal

pub returns-clause-later : goal.returns-clause-later
returns-clause-later g c =
    let turn = c.turn-turn in
    subst (λ p. Stays (state_of p.scopes.scopes) p.task (state_of turn.new.scopes.scopes) turn.new.self) c.deref_mut-parts.ensures.value (turn_stays _ _ _ _ turn.ensures.turns turn.ensures.far)

pub returns-clause-ends : goal.returns-clause-ends
returns-clause-ends g c = λ sees.
    let turn = c.turn-turn in
    let saw = subst (λ p. SeesAll (state_of p.scopes.scopes)) (sym c.deref_mut-parts.ensures.value) sees in
    subst (EndsIt (is_over turn.new.self)) (sym c.turned.ensures) (ends_it _ _ turn.new.self _ _ turn.ensures.ends saw)
