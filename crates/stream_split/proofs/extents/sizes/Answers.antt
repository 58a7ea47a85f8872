use Rattle.std.proofs.Common.{◌≡◌, ◌<◌, ◌^◌, get_or, length, ap, sym, subst, ◌∙◌}
use Rattle.std.proofs.lemmas.List.Elements.{All-get_or}
use Rattle.std.proofs.lemmas.Result.{IfOk-from_err}
use Rattle.stream_split.specs.declared.streams.StreamTokens.{StreamTokens}
use Rattle.stream_split.specs.Sizes.{room_of}
use Rattle.stream_split.specs.Views.{stream_view}
use Rattle.stream_split.proofs.SizeSteps.{sizes_step}
use Rattle.stream_split.proofs.extents.sizes.Goals as goal

pub loop-stream-preserved : goal.loop-stream-preserved
loop-stream-preserved c =
    let item : c.stream-item.result ≡ get_or c.args.streams.now c.loop-stream.stream-index c.stream-item.result = c.stream-item.is in
    let count : c.room_of.result ≡ room_of (stream_view c.stream-item.result) = c.room_of.ensures.room in
    sizes_step c.args.streams.now c.loop-stream.stream-index c.stream-item.result c.loop-stream.sizes.items _ c.room_of.result c.loop-stream-test.true c.loop-stream.invariant c.in_ok-push-2.ensures.items
    (count ∙ ap (λ s. room_of (stream_view s)) item)

pub room_of-requires : goal.room_of-requires
room_of-requires c =
    subst (λ (s : StreamTokens). length s.tokens.items < 2 ^ 30) (sym c.stream-item.is)
    (All-get_or (λ (s : StreamTokens). length s.tokens.items < 2 ^ 30) c.args.streams.now c.loop-stream.stream-index c.stream-item.result c.loop-stream-test.true c.requires)

pub returns-in_err-push : goal.returns-in_err-push
returns-in_err-push c = record { sizes = IfOk-from_err c.from_residual.result _ c.from_residual.ensures.0 }

pub returns-in_err-push-2 : goal.returns-in_err-push-2
returns-in_err-push-2 c = record { sizes = IfOk-from_err c.from_residual-in_err-push-2.result _ c.from_residual-in_err-push-2.ensures.0 }
