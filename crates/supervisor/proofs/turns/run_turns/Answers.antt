use Rattle.std.proofs.Common.{Global, Vec, arith, length, ◌≡◌}
use Rattle.m2_base.specs.declared.outputs.Output.{Output}
use Rattle.merge_laws.specs.Outputs.{AreOutputs}
use Rattle.unit_tasks.specs.Outputs.{AreOfStreams}
use Rattle.unit_tasks.proofs.Starting.{if_ok}
use Rattle.unit_tasks.proofs.UnitOutputs.{outputs_are}
use Rattle.supervisor.specs.Stands.{AreFull}
use Rattle.supervisor.proofs.Starting.{lent_left, on_ok}
use Rattle.supervisor.proofs.Standing.{all_full}
use Rattle.supervisor.proofs.turns.run_turns.Goals as goal

pub returns-clause-streams : goal.returns-clause-streams
returns-clause-streams c =
    let first = c.in_ok-tasks.ensures.stand.count in
    let last = c.last_turns.ensures.stand.count in
    let long = c.in_ok-tasks.tasks.ok.0 in
    let same : length c.last_turns.new.tasks ≡ c.in_ok-tasks.tasks.len = omega (arith, first, last, long) in
    if_ok _ (λ (outputs : Vec Output Global). AreOfStreams c.args.texts.now outputs.items) c.outputs_of.result
    (λ outputs left. lent_left c.args.texts.now c.last_turns.new.scopes c.in_ok-tasks.tasks.len _ c.last_turns.new.tasks same c.last_turns.ensures.stand outputs.items left) c.outputs_of.ensures

pub returns-clause-full : goal.returns-clause-full
returns-clause-full c =
    on_ok (AreFull c.last_turns.new.scopes) c.outputs_of.result (all_full c.args.texts.now c.last_turns.new.scopes c.last_turns.new.tasks c.last_turns.ensures.stand c.in_ok-last_turns.ensures.over)

pub returns-clause-unit : goal.returns-clause-unit
returns-clause-unit c =
    if_ok (λ (outputs : Vec Output Global). AreOfStreams c.args.texts.now outputs.items) (λ (outputs : Vec Output Global). AreOutputs c.args.texts.now outputs.items) c.outputs_of.result
    (λ outputs are. outputs_are c.args.texts.now outputs.items c.requires.unit.limits are) (returns-clause-streams c)
