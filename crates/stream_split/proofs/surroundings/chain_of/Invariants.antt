use Rattle.std.proofs.Common.{◌≡◌, map}
use Rattle.stream_split.specs.Chains.{chain_from}
use Rattle.stream_split.specs.Views.{stream_view}
use Rattle.stream_split.proofs.Climbs.{climb}
use Rattle.stream_split.proofs.surroundings.chain_of.Given as goal

abbrev pub invariant-loop : goal.invariant-loop
invariant-loop l = record {
  chain : l.chain.items ≡ chain_from l.counter (map stream_view l.streams) l.stream;
  inner : l.inner ≡ climb l.counter (map stream_view l.streams) l.stream;
}
