use Rattle.std.proofs.Common.{◌∙◌}
use Rattle.unit_workers.proofs.Places.{mapped_more}
use Rattle.unit_workers.proofs.opened.outputs_alone.Goals as goal

pub loop-finished-preserved : goal.loop-finished-preserved
loop-finished-preserved c = c.in_ok-push.ensures.items ∙ mapped_more (λ f. f.output) c.loop-finished.yielded c.in-Some.finished c.loop-finished.outputs.items c.loop-finished.invariant
