use Rattle.std.proofs.Common.{◌≡◌, ◌≤◌, length}
use Rattle.m2_io.specs.Pieces.{kept_in, sink_of}
use Rattle.m2_io.specs.Written.{with_bytes}
use Rattle.m2_io.proofs.pieces.Pieces.hand_on.Given as goal

abbrev pub invariant-loop-self : goal.invariant-loop-self
invariant-loop-self g l = record {
  written : with_bytes (g.P.Sink.written (sink_of l.self)) (kept_in l.self) ≡ with_bytes (g.P.Sink.written (sink_of l.fn.self)) (kept_in l.fn.self);
  later : g.P.Sink.faults (sink_of l.fn.self) ≤ g.P.Sink.faults (sink_of l.self);
}

abbrev pub decreases-loop-self : goal.decreases-loop-self
decreases-loop-self g l = length (kept_in l.self)
