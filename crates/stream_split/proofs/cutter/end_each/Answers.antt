use Rattle.std.proofs.lemmas.Result.{IfOk-from_err}
use Rattle.std.proofs.Common.{◌∙◌}
use Rattle.stream_split.proofs.Items.{ends_step}
use Rattle.stream_split.proofs.cutter.end_each.Goals as goal

pub loop-f-preserved : goal.loop-f-preserved
loop-f-preserved c = record {
  sent = ends_step c.args.first c.args.around.now c.loop-f.f-index _ c.args.t _ _ _ c.loop-f-test.true c.loop-f.invariant.sent c.in_ok-send.ensures.sent;
  labels = c.in_ok-send.ensures.labels ∙ c.loop-f.invariant.labels;
  count = c.in_ok-send.ensures.count ∙ c.loop-f.invariant.count;
}

pub returns-in_err-send : goal.returns-in_err-send
returns-in_err-send c = record { sent = IfOk-from_err c.from_residual.result _ c.from_residual.ensures.0; labels = IfOk-from_err c.from_residual.result _ c.from_residual.ensures.0; count = IfOk-from_err c.from_residual.result _ c.from_residual.ensures.0 }
