use Rattle.std.proofs.Common.{◌≡◌, ◌++◌, drop}
use Rattle.unit_merge.specs.Outcome.{refusals}
use Rattle.unit_merge.proofs.faults.refusals.Given as goal

abbrev pub invariant-loop-fault : goal.invariant-loop-fault
invariant-loop-fault l = l.diags.items ++ refusals (drop l.fault-index l.faults) ≡ refusals l.faults
