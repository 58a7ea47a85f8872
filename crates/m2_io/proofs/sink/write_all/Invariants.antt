use Rattle.std.proofs.Common.{length, ◌-◌}
use Rattle.m2_io.proofs.Loops.{IsWriting}
use Rattle.m2_io.proofs.sink.write_all.Given as goal

abbrev pub invariant-loop-done : goal.invariant-loop-done
invariant-loop-done g l =
    let written = g.P.Sink.written in
    let faults = g.P.Sink.faults in
    IsWriting (written l.fn.sink) (faults l.fn.sink) l.bytes (written l.sink) (faults l.sink) l.done

abbrev pub decreases-loop-done : goal.decreases-loop-done
decreases-loop-done g l = length l.bytes - l.done
