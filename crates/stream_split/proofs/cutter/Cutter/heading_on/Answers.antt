use Rattle.std.proofs.lemmas.Result.{IfOk-from_err}
use Rattle.stream_split.proofs.cutter.Cutter.heading_on.Goals as goal

pub returns-in_err-send : goal.returns-in_err-send
returns-in_err-send c = record { state = IfOk-from_err c.from_residual.result _ c.from_residual.ensures.0; sent = IfOk-from_err c.from_residual.result _ c.from_residual.ensures.0; labels = IfOk-from_err c.from_residual.result _ c.from_residual.ensures.0; first = IfOk-from_err c.from_residual.result _ c.from_residual.ensures.0 }

pub returns-in_err-push : goal.returns-in_err-push
returns-in_err-push c = record { state = IfOk-from_err c.from_residual-in_err-push.result _ c.from_residual-in_err-push.ensures.0; sent = IfOk-from_err c.from_residual-in_err-push.result _ c.from_residual-in_err-push.ensures.0; labels = IfOk-from_err c.from_residual-in_err-push.result _ c.from_residual-in_err-push.ensures.0; first = IfOk-from_err c.from_residual-in_err-push.result _ c.from_residual-in_err-push.ensures.0 }

pub send-requires : goal.send-requires
send-requires c = c.requires.current
