use Rattle.std.proofs.Common.{◌≡◌, ◌+◌, drop}
use Rattle.stmt_sem.specs.FlowSizes.{arms_bytes}
use Rattle.stmt_sem.proofs.flow_sizes.arms_size.Given as goal

-- the bytes so far and those that are left are all
abbrev pub invariant-loop-arm : goal.invariant-loop-arm
invariant-loop-arm l = l.total + arms_bytes l.fragments.nodes.items (drop l.arm-index l.arms) ≡ arms_bytes l.fragments.nodes.items l.arms
