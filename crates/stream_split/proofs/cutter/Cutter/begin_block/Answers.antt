use Rattle.std.proofs.lemmas.Result.{IfOk-from_err}
use Rattle.std.proofs.Common.{◌≡◌, ◌<◌, length, rules, ◌∙◌, ap, suc, sym, subst, arith}
use Rattle.stream_split.proofs.Items.{block_state}
use Rattle.stream_split.proofs.cutter.Cutter.begin_block.Goals as goal

pub returns-clause-state : goal.returns-clause-state
returns-clause-state c =
    let same = c.in_ok-open.ensures.rest in
    let index : c.len-index.result ≡ length c.args.self.now.streams.items = search rules in
    let one = c.in_ok-open.ensures.count in
    let two = c.in_ok-send-2.ensures.count ∙ c.in_ok-send.ensures.count in
    let count : length c.open.new.self.streams.items ≡ suc (length c.args.self.now.streams.items) = omega (arith, one, two) in
    block_state c.args.self.now.first _ _ _ _ c.args.self.now.current _ c.args.self.now.mode _ c.args.self.now.around.items _ _
    (ap (λ s. s.first) same) (ap (λ s. s.current) same) (ap (λ s. s.mode) same) index count (ap (λ s. s.around.items) same) c.in_ok-push.ensures.items

pub returns-in_default : goal.returns-in_default
returns-in_default c = record { state = tt; sent = tt; labels = tt; first = tt }

pub returns-in_err-send : goal.returns-in_err-send
returns-in_err-send c = record { state = IfOk-from_err c.from_residual.result _ c.from_residual.ensures.0; sent = IfOk-from_err c.from_residual.result _ c.from_residual.ensures.0; labels = IfOk-from_err c.from_residual.result _ c.from_residual.ensures.0; first = IfOk-from_err c.from_residual.result _ c.from_residual.ensures.0 }

pub returns-in_err-send-2 : goal.returns-in_err-send-2
returns-in_err-send-2 c = record { state = IfOk-from_err c.from_residual-in_err-send-2.result _ c.from_residual-in_err-send-2.ensures.0; sent = IfOk-from_err c.from_residual-in_err-send-2.result _ c.from_residual-in_err-send-2.ensures.0; labels = IfOk-from_err c.from_residual-in_err-send-2.result _ c.from_residual-in_err-send-2.ensures.0; first = IfOk-from_err c.from_residual-in_err-send-2.result _ c.from_residual-in_err-send-2.ensures.0 }

pub returns-in_err-open : goal.returns-in_err-open
returns-in_err-open c = record { state = IfOk-from_err c.from_residual-in_err-open.result _ c.from_residual-in_err-open.ensures.0; sent = IfOk-from_err c.from_residual-in_err-open.result _ c.from_residual-in_err-open.ensures.0; labels = IfOk-from_err c.from_residual-in_err-open.result _ c.from_residual-in_err-open.ensures.0; first = IfOk-from_err c.from_residual-in_err-open.result _ c.from_residual-in_err-open.ensures.0 }

pub returns-in_err-push : goal.returns-in_err-push
returns-in_err-push c = record { state = IfOk-from_err c.from_residual-in_err-push.result _ c.from_residual-in_err-push.ensures.0; sent = IfOk-from_err c.from_residual-in_err-push.result _ c.from_residual-in_err-push.ensures.0; labels = IfOk-from_err c.from_residual-in_err-push.result _ c.from_residual-in_err-push.ensures.0; first = IfOk-from_err c.from_residual-in_err-push.result _ c.from_residual-in_err-push.ensures.0 }

pub send-requires : goal.send-requires
send-requires c = c.requires.current

pub send-requires-2 : goal.send-requires-2
send-requires-2 c = subst (λ n. c.args.self.now.current < n) (sym c.in_ok-send.ensures.count) c.requires.current
