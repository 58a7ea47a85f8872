use Rattle.unit_tasks.proofs.Starting.{number_low, one_more_around, read_at}
use Rattle.std.proofs.Common.{subst, sym, ◌≡◌, List, map, take, ◌+◌}
use Rattle.m2_base.specs.declared.sites.Around.{Around}
use Rattle.stream_split.specs.Chains.{around_view}
use Rattle.stream_split.specs.Streams.{streams_of}
use Rattle.unit_tasks.specs.Units.{block_in}
use Rattle.unit_tasks.proofs.blocks.surroundings.Goals as goal

pub around-requires-clause-low : goal.around-requires-clause-low
around-requires-clause-low c = (number_low c.args.texts.now c.args.streams.now c.requires c.loop-stream.stream-index c.stream-item.result c.loop-stream-test.true c.stream-item.is).0

pub around-requires-clause-there : goal.around-requires-clause-there
around-requires-clause-there c = (number_low c.args.texts.now c.args.streams.now c.requires c.loop-stream.stream-index c.stream-item.result c.loop-stream-test.true c.stream-item.is).1

pub loop-stream-preserved : goal.loop-stream-preserved
loop-stream-preserved c =
    subst (λ (xs : List Around). map around_view xs ≡ map (block_in c.args.texts.now) (take (c.loop-stream.stream-index + 1) (streams_of c.args.texts.now))) (sym c.in_ok-push.ensures.items)
    (one_more_around c.args.texts.now c.args.streams.now c.requires c.loop-stream.stream-index c.stream-item.result
    (read_at c.args.streams.now c.loop-stream.stream-index c.stream-item.result c.loop-stream-test.true c.stream-item.is)
    c.loop-stream.arounds.items c.in_ok-around.field-0 c.in_ok-around.ensures.block c.loop-stream.invariant)
