use Rattle.std.proofs.lemmas.Result.{IfOk-from_err}
use Rattle.std.proofs.Common.{◌∙◌, subst}
use Rattle.stream_split.specs.Cut.{all_end}
use Rattle.stream_split.specs.Views.{Sent, frames_view}
use Rattle.stream_split.proofs.Items.{heading_sent}
use Rattle.stream_split.proofs.cutter.Cutter.end_heading.Goals as goal

pub returns-clause-sent : goal.returns-clause-sent
returns-clause-sent c =
    heading_sent c.args.self.now.first _ c.args.self.now.streams.items c.send.new.streams.items c.end_around.new.streams.items _ c.args.t _ _
    c.in_ok-send.ensures.sent
    (subst (λ z. Sent c.args.self.now.first c.send.new.streams.items (all_end (frames_view c.args.self.now.first z) c.args.t) c.end_around.new.streams.items) c.deref.ensures.value c.in_ok-end_around.ensures.sent)
    (c.in_ok-end_around.ensures.count ∙ c.in_ok-send.ensures.count) c.in_ok-open.ensures.sent

pub returns-in_err-send : goal.returns-in_err-send
returns-in_err-send c = record { state = IfOk-from_err c.from_residual.result _ c.from_residual.ensures.0; sent = IfOk-from_err c.from_residual.result _ c.from_residual.ensures.0; labels = IfOk-from_err c.from_residual.result _ c.from_residual.ensures.0; first = IfOk-from_err c.from_residual.result _ c.from_residual.ensures.0 }

pub returns-in_err-end_around : goal.returns-in_err-end_around
returns-in_err-end_around c = record { state = IfOk-from_err c.from_residual-in_err-end_around.result _ c.from_residual-in_err-end_around.ensures.0; sent = IfOk-from_err c.from_residual-in_err-end_around.result _ c.from_residual-in_err-end_around.ensures.0; labels = IfOk-from_err c.from_residual-in_err-end_around.result _ c.from_residual-in_err-end_around.ensures.0; first = IfOk-from_err c.from_residual-in_err-end_around.result _ c.from_residual-in_err-end_around.ensures.0 }

pub returns-in_err-open : goal.returns-in_err-open
returns-in_err-open c = record { state = IfOk-from_err c.from_residual-in_err-open.result _ c.from_residual-in_err-open.ensures.0; sent = IfOk-from_err c.from_residual-in_err-open.result _ c.from_residual-in_err-open.ensures.0; labels = IfOk-from_err c.from_residual-in_err-open.result _ c.from_residual-in_err-open.ensures.0; first = IfOk-from_err c.from_residual-in_err-open.result _ c.from_residual-in_err-open.ensures.0 }

pub send-requires : goal.send-requires
send-requires c = c.requires.current
