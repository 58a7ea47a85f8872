use Rattle.std.proofs.Common.{◌≡◌, map, take, length}
use Rattle.stream_split.specs.Streams.{definition_streams}
use Rattle.stream_split.specs.Views.{stream_view}
use Rattle.stream_split.proofs.splitting.definition_texts.Given as goal

abbrev pub invariant-loop-k : goal.invariant-loop-k
invariant-loop-k l = record {
  streams : map stream_view l.streams.items ≡ definition_streams 1 l.texts.list (take l.k-index l.k-items);
  count : length l.streams.items ≡ l.k-index;
}
