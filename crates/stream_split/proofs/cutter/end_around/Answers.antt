use Rattle.std.proofs.lemmas.Result.{IfOk-from_err}
use Rattle.stream_split.proofs.Items.{sent_ends}
use Rattle.stream_split.proofs.cutter.end_around.Goals as goal

pub returns-clause-sent : goal.returns-clause-sent
returns-clause-sent c = sent_ends c.args.first c.args.streams.now.items _ c.args.around.now c.args.t c.in_ok-end_each.ensures.sent

pub returns-in_err-end_each : goal.returns-in_err-end_each
returns-in_err-end_each c = record { sent = IfOk-from_err c.from_residual.result _ c.from_residual.ensures.0; labels = IfOk-from_err c.from_residual.result _ c.from_residual.ensures.0; count = IfOk-from_err c.from_residual.result _ c.from_residual.ensures.0 }
