use Rattle.m2_base.specs.Views.{stream_view}
use Rattle.scope_core.specs.PlainScopes.{state_of}
use Rattle.m2_cases.proofs.Declarations.{all_full, begun, may_complete}
use Rattle.m2_cases.proofs.declaring.analysed.Goals as goal

pub declare_items-requires-clause-block : goal.declare_items-requires-clause-block
declare_items-requires-clause-block c = record { sample = c.requires; around = c.in_ok-around.ensures; layout = c.in_ok-layout.ensures }

pub declare_items-requires-clause-begun : goal.declare_items-requires-clause-begun
declare_items-requires-clause-begun c =
    begun c.in_ok-scopes.scopes c.in_ok-rows.rows c.in_ok-scopes.ensures.started (c.in_ok-rows.ensures.count (stream_view c.args.sample.now.tree) c.in_ok-layout.ensures)

pub complete-requires : goal.complete-requires
complete-requires c = may_complete (state_of c.declare_items.new.scopes) c.requires c.in_ok-declare_items.ensures

pub close-requires : goal.close-requires
close-requires c =
    record {
      block = record { sample = c.requires; around = c.in_ok-around.ensures; layout = c.in_ok-layout.ensures };
      full = all_full (state_of c.declare_items.new.scopes) (state_of c.complete.new.self) c.in_ok-declare_items.ensures c.complete.ensures;
    }
