use Rattle.std.proofs.lemmas.Result.{IfOk-from_err}
use Rattle.std.proofs.Common.{sym, subst, ◌<◌}
use Rattle.stream_split.proofs.cutter.Cutter.leave.Goals as goal

pub returns-in_err-send : goal.returns-in_err-send
returns-in_err-send c = record { state = IfOk-from_err c.from_residual.result _ c.from_residual.ensures.0; sent = IfOk-from_err c.from_residual.result _ c.from_residual.ensures.0; labels = IfOk-from_err c.from_residual.result _ c.from_residual.ensures.0; first = IfOk-from_err c.from_residual.result _ c.from_residual.ensures.0 }

pub returns-in_err-send-2 : goal.returns-in_err-send-2
returns-in_err-send-2 c = record { state = IfOk-from_err c.from_residual-in_err-send-2.result _ c.from_residual-in_err-send-2.ensures.0; sent = IfOk-from_err c.from_residual-in_err-send-2.result _ c.from_residual-in_err-send-2.ensures.0; labels = IfOk-from_err c.from_residual-in_err-send-2.result _ c.from_residual-in_err-send-2.ensures.0; first = IfOk-from_err c.from_residual-in_err-send-2.result _ c.from_residual-in_err-send-2.ensures.0 }

pub send-requires : goal.send-requires
send-requires c = c.requires.current

pub send-requires-2 : goal.send-requires-2
send-requires-2 c = subst (λ n. c.args.self.now.current < n) (sym c.in_ok-send.ensures.count) c.requires.current

pub end_token-requires : goal.end_token-requires
end_token-requires c = tt
