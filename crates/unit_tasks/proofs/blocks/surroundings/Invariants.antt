use Rattle.std.proofs.Common.{◌≡◌, map, take}
use Rattle.stream_split.specs.Chains.{around_view}
use Rattle.stream_split.specs.Streams.{streams_of}
use Rattle.unit_tasks.specs.Units.{block_in}
use Rattle.unit_tasks.proofs.blocks.surroundings.Given as goal

-- what surrounds the blocks so far
abbrev pub invariant-loop-stream : goal.invariant-loop-stream
invariant-loop-stream l = map around_view l.arounds.items ≡ map (block_in l.texts) (take l.stream-index (streams_of l.texts))
