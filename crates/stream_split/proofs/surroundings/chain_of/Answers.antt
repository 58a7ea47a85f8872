use Rattle.std.proofs.lemmas.Result.{IfOk-from_err}
use Rattle.std.proofs.Common.{◌≡◌, ◌+◌, ◌++◌, ◌∷◌, [], map, ap, sym, ◌∙◌}
use Rattle.stream_split.specs.Chains.{outer_of, chain_from}
use Rattle.stream_split.specs.Views.{stream_view}
use Rattle.stream_split.proofs.Climbs.{climb, climb_on, chain_on}
use Rattle.stream_split.proofs.surroundings.chain_of.Goals as goal

pub loop-preserved : goal.loop-preserved
loop-preserved c =
    let streams = map stream_view c.args.streams.now in
    let inner : c.outer_of-inner.result ≡ climb (c.loop.counter + 1) streams c.args.stream =
    c.outer_of-inner.ensures ∙ ap (outer_of streams) c.loop.invariant.inner ∙ sym (climb_on c.loop.counter streams c.args.stream) in
    record {
      chain =
          c.in_ok-push-2.ensures.items ∙ ap (λ z. z ++ (c.outer_of-inner.result ∷ [])) c.loop.invariant.chain
          ∙ ap (λ z. chain_from c.loop.counter streams c.args.stream ++ (z ∷ [])) inner ∙ sym (chain_on c.loop.counter streams c.args.stream);
      inner = inner;
    }

pub returns-in_err-push : goal.returns-in_err-push
returns-in_err-push c = IfOk-from_err c.from_residual.result _ c.from_residual.ensures.0

pub returns-in_err-push-2 : goal.returns-in_err-push-2
returns-in_err-push-2 c = IfOk-from_err c.from_residual-in_err-push-2.result _ c.from_residual-in_err-push-2.ensures.0
