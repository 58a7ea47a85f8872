use Rattle.object_file.specs.Ways.{steps_left}
use Rattle.object_file.proofs.OnWays.{IsUnderWay}
use Rattle.object_file.proofs.running.running_order.Given as goal

abbrev pub invariant-loop-frame : goal.invariant-loop-frame
invariant-loop-frame l = IsUnderWay l.objects l.walk

abbrev pub decreases-loop-frame : goal.decreases-loop-frame
decreases-loop-frame l = steps_left l.objects l.walk
