use Rattle.std.proofs.lemmas.Result.{IfOk-from_err}
use Rattle.std.proofs.Common.{◌∙◌, ap, ◌++◌, ◌∷◌, [], length, ◌+◌}
use Rattle.m2_base.specs.declared.trees.declarations.StreamKind.TheVariants.{Procedure}
use Rattle.stream_split.specs.Streams.{StreamOf}
use Rattle.stream_split.proofs.Items.{sent_open, labels_open, level_is}
use Rattle.stream_split.proofs.cutter.Cutter.open.Goals as goal

pub returns-clause-sent : goal.returns-clause-sent
returns-clause-sent c =
    sent_open c.args.self.now.first c.args.self.now.streams.items _ c.in-Some.opened _ _ c.in_ok-push-2.ensures.items c.in-Some.ensures
    (c.in_ok-push.ensures.items ∙ ap (λ v. v.items ++ (c.args.t ∷ [])) c.replace-tokens.ensures.value)

pub returns-clause-labels : goal.returns-clause-labels
returns-clause-labels c =
    let blank : _ → StreamOf = λ l. record { stream = c.args.self.now.first + length c.args.self.now.streams.items; text = 0; outer = c.args.self.now.first + c.args.self.now.current; level = l; kind = Procedure; tokens = [] } in
    labels_open c.args.self.now.streams.items _ c.in-Some.opened _ _ c.in_ok-push-2.ensures.items c.in-Some.ensures
    (ap blank (level_is c.args.self.now.first c.args.self.now.around.items))

pub returns-in_err-push : goal.returns-in_err-push
returns-in_err-push c = record { sent = IfOk-from_err c.from_residual.result _ c.from_residual.ensures.0; labels = IfOk-from_err c.from_residual.result _ c.from_residual.ensures.0; count = IfOk-from_err c.from_residual.result _ c.from_residual.ensures.0; rest = IfOk-from_err c.from_residual.result _ c.from_residual.ensures.0 }

pub returns-in_default : goal.returns-in_default
returns-in_default c = record { sent = tt; labels = tt; count = tt; rest = tt }

pub returns-in_err-push-2 : goal.returns-in_err-push-2
returns-in_err-push-2 c = record { sent = IfOk-from_err c.from_residual-in_err-push-2.result _ c.from_residual-in_err-push-2.ensures.0; labels = IfOk-from_err c.from_residual-in_err-push-2.result _ c.from_residual-in_err-push-2.ensures.0; count = IfOk-from_err c.from_residual-in_err-push-2.result _ c.from_residual-in_err-push-2.ensures.0; rest = IfOk-from_err c.from_residual-in_err-push-2.result _ c.from_residual-in_err-push-2.ensures.0 }
