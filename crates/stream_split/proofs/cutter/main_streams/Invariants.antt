use Rattle.std.proofs.Common.{take}
use Rattle.stream_split.proofs.Loop.{So}
use Rattle.stream_split.proofs.cutter.main_streams.Given as goal

abbrev pub invariant-loop-t : goal.invariant-loop-t
invariant-loop-t l = So l.first l.cutter (take l.t-index l.tokens)
