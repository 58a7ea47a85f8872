use Rattle.std.proofs.Common.{◌-◌, length}
use Rattle.m2_base.specs.States.{Turns}
use Rattle.task_state.specs.Steps.{IsStating}
use Rattle.task_state.proofs.stating.state_all.Given as goal

-- so many statements are made
abbrev pub invariant-statements : goal.invariant-statements
invariant-statements g l =
    let state = g.S.Scopes.state in
    record {
      turns : Turns (state l.fn.scopes) (state l.scopes);
      far : IsStating (state l.scopes) l.block l.collected l.stating;
    }

abbrev pub decreases-statements : goal.decreases-statements
decreases-statements g l = length l.block.tree.now.body.items - l.stating.body.count
