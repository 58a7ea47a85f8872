use Rattle.std.proofs.Common.{◌≡◌, drop}
use Rattle.unit_merge.specs.Outcome.{first_too_deep}
use Rattle.unit_merge.proofs.faults.first_too_deep.Given as goal

abbrev pub invariant-loop-fault : goal.invariant-loop-fault
invariant-loop-fault l = first_too_deep (drop l.fault-index l.faults) ≡ first_too_deep l.faults
