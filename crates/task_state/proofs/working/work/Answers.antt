use Rattle.m2_base.specs.declared.outputs.Output.{Output}
use Rattle.m2_base.proofs.Kept.{Turns-trans}
use Rattle.task_state.proofs.Turning.{stop_later}
use Rattle.task_state.proofs.working.work.Goals as goal

pub returns-in-Err-declare_rest-clause-turns : goal.returns-in-Err-declare_rest-clause-turns
returns-in-Err-declare_rest-clause-turns g c = Turns-trans c.place.ensures.turns c.declare_rest.ensures.turns

pub returns-in-Err-declare_rest-clause-stops : goal.returns-in-Err-declare_rest-clause-stops
returns-in-Err-declare_rest-clause-stops g c =
    stop_later (Unit {0}) Output (g.S.Scopes.state c.args.scopes.now) (g.S.Scopes.state c.place.new.scopes) (g.S.Scopes.state c.declare_rest.new.scopes) c.in-Err-declare_rest.stop c.place.ensures.turns
    c.in-Err-declare_rest.ensures.stops

pub returns-in-Err-begin_rest-clause-turns : goal.returns-in-Err-begin_rest-clause-turns
returns-in-Err-begin_rest-clause-turns g c = Turns-trans (Turns-trans c.place.ensures.turns c.declare_rest.ensures.turns) c.begin_rest.ensures.turns

pub returns-in-Err-begin_rest-clause-stops : goal.returns-in-Err-begin_rest-clause-stops
returns-in-Err-begin_rest-clause-stops g c =
    stop_later (Unit {0}) Output (g.S.Scopes.state c.args.scopes.now) (g.S.Scopes.state c.declare_rest.new.scopes) (g.S.Scopes.state c.begin_rest.new.scopes) c.in-Err-begin_rest.stop
    (Turns-trans c.place.ensures.turns c.declare_rest.ensures.turns) c.in-Err-begin_rest.ensures.stops

pub returns-in-Err-state_rest-clause-turns : goal.returns-in-Err-state_rest-clause-turns
returns-in-Err-state_rest-clause-turns g c =
    Turns-trans (Turns-trans (Turns-trans c.place.ensures.turns c.declare_rest.ensures.turns) c.begin_rest.ensures.turns) c.state_rest.ensures.turns

pub returns-in-Err-state_rest-clause-stops : goal.returns-in-Err-state_rest-clause-stops
returns-in-Err-state_rest-clause-stops g c =
    stop_later (Unit {0}) Output (g.S.Scopes.state c.args.scopes.now) (g.S.Scopes.state c.begin_rest.new.scopes) (g.S.Scopes.state c.state_rest.new.scopes) c.in-Err-state_rest.stop
    (Turns-trans (Turns-trans c.place.ensures.turns c.declare_rest.ensures.turns) c.begin_rest.ensures.turns) c.in-Err-state_rest.ensures.stops

pub returns-in-Ok-end-clause-turns : goal.returns-in-Ok-end-clause-turns
returns-in-Ok-end-clause-turns g c =
    Turns-trans (Turns-trans (Turns-trans c.place.ensures.turns c.declare_rest.ensures.turns) c.begin_rest.ensures.turns) c.state_rest.ensures.turns

pub returns-in-Err-end-clause-turns : goal.returns-in-Err-end-clause-turns
returns-in-Err-end-clause-turns g c =
    Turns-trans (Turns-trans (Turns-trans c.place.ensures.turns c.declare_rest.ensures.turns) c.begin_rest.ensures.turns) c.state_rest.ensures.turns
