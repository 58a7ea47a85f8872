use Rattle.m2_base.proofs.Kept.{Turns-refl, Turns-trans}
use Rattle.task_state.proofs.Turning.{stop_later}
use Rattle.task_state.proofs.stating.state_all.Goals as goal

pub statements-init : goal.statements-init
statements-init g c = record { turns = Turns-refl (g.S.Scopes.state c.args.scopes.now); far = c.requires.far }

pub state_next-requires-clause-far : goal.state_next-requires-clause-far
state_next-requires-clause-far g c = c.statements.invariant.far

pub statements-preserved : goal.statements-preserved
statements-preserved g c = record { turns = Turns-trans c.statements.invariant.turns c.state_next.ensures.turns; far = c.state_next.ensures.far }

pub returns-in-Err-clause-turns : goal.returns-in-Err-clause-turns
returns-in-Err-clause-turns g c = Turns-trans c.statements.invariant.turns c.state_next.ensures.turns

pub returns-in-Err-clause-far : goal.returns-in-Err-clause-far
returns-in-Err-clause-far g c = c.state_next.ensures.far

pub returns-in-Err-clause-stops : goal.returns-in-Err-clause-stops
returns-in-Err-clause-stops g c =
    stop_later (Unit {0}) (Unit {0}) (g.S.Scopes.state c.args.scopes.now) (g.S.Scopes.state c.statements.scopes) (g.S.Scopes.state c.state_next.new.scopes) c.in-Err.stop c.statements.invariant.turns c.in-Err.ensures.stops

pub returns-clause-turns : goal.returns-clause-turns
returns-clause-turns g c = c.statements.invariant.turns

pub returns-clause-far : goal.returns-clause-far
returns-clause-far g c = c.statements.invariant.far
