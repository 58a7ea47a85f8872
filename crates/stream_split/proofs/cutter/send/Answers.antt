use Rattle.std.proofs.lemmas.Result.{IfOk-from_err}
use Rattle.stream_split.proofs.Items.{item_set, labels_set}
use Rattle.stream_split.proofs.cutter.send.Goals as goal
use Rattle.std.proofs.Common.{refl}

pub returns-clause-sent : goal.returns-clause-sent
returns-clause-sent c = λ j. item_set c.args.first j c.args.stream c.args.streams.now.items c.index_mut.result.now _ c.args.t c.requires c.index_mut.ensures.value c.in_ok-push.ensures.items

pub returns-clause-labels : goal.returns-clause-labels
returns-clause-labels c = labels_set c.args.stream c.args.streams.now.items c.index_mut.result.now _ c.requires c.index_mut.ensures.value refl

pub returns-in_err-push : goal.returns-in_err-push
returns-in_err-push c = record { sent = IfOk-from_err c.from_residual.result _ c.from_residual.ensures.0; labels = IfOk-from_err c.from_residual.result _ c.from_residual.ensures.0; count = IfOk-from_err c.from_residual.result _ c.from_residual.ensures.0 }
