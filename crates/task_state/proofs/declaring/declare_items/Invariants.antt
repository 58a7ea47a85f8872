use Rattle.std.proofs.Common.{◌-◌, length}
use Rattle.m2_base.specs.States.{Turns}
use Rattle.m2_base.specs.Statics.Items.{items_of}
use Rattle.m2_base.specs.Views.{stream_view}
use Rattle.task_state.specs.Steps.{IsDeclaring}
use Rattle.task_state.proofs.declaring.declare_items.Given as goal

-- so many items are declared
abbrev pub invariant-items : goal.invariant-items
invariant-items g l =
    let state = g.S.Scopes.state in
    record {
      turns : Turns (state l.fn.scopes) (state l.scopes);
      far : IsDeclaring (state l.scopes) l.block l.collected;
    }

abbrev pub decreases-items : goal.decreases-items
decreases-items g l = length (items_of (stream_view l.block.tree.now)) - l.collected.count
