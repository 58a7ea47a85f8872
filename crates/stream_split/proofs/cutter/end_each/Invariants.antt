use Rattle.std.proofs.Common.{◌≡◌, length, take, map}
use Rattle.stream_split.specs.Views.{Sent, sends_all, label}
use Rattle.stream_split.proofs.cutter.end_each.Given as goal

abbrev pub invariant-loop-f : goal.invariant-loop-f
invariant-loop-f l = record {
  sent : Sent l.first l.fn.streams.items (sends_all l.first (take l.f-index l.around) l.t) l.streams.items;
  labels : map label l.streams.items ≡ map label l.fn.streams.items;
  count : length l.streams.items ≡ length l.fn.streams.items;
}
