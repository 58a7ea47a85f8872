use Rattle.std.proofs.Common.{◌≡◌, map, take}
use Rattle.stream_split.specs.Sizes.{sizes_of}
use Rattle.stream_split.specs.Views.{stream_view}
use Rattle.stream_split.proofs.extents.sizes.Given as goal

abbrev pub invariant-loop-stream : goal.invariant-loop-stream
invariant-loop-stream l = l.sizes.items ≡ sizes_of (map stream_view (take l.stream-index l.streams))
