use Rattle.std.proofs.lemmas.Result.{IfOk-from_err}
use Rattle.std.proofs.Common.{◌≡◌, ap, rules, ◌+◌}
use Rattle.stream_split.specs.Streams.{definition_stream}
use Rattle.stream_split.proofs.Definitions.{definitions_step}
use Rattle.stream_split.proofs.splitting.definition_texts.Goals as goal

pub loop-k-preserved : goal.loop-k-preserved
loop-k-preserved c =
    let n : c.in-Some.stream ≡ 1 + c.loop-k.k-index = search rules in
    record {
      streams = definitions_step c.args.texts.now.list c.deref-k-items.result.now c.loop-k.k-index c.in-Some.stream c.loop-k.streams.items _ _ c.loop-k-test.true c.loop-k.invariant.streams c.in_ok-push.ensures.items n (ap (definition_stream c.in-Some.stream _) c.in_ok-tokens.ensures.tokens);
      count = search rules;
    }

pub returns-in_err-tokens : goal.returns-in_err-tokens
returns-in_err-tokens c = record { streams = IfOk-from_err c.from_residual.result _ c.from_residual.ensures.0 }

pub returns-in_err-push : goal.returns-in_err-push
returns-in_err-push c = record { streams = IfOk-from_err c.from_residual-in_err-push.result _ c.from_residual-in_err-push.ensures.0 }
