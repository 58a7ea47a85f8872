use Rattle.std.proofs.Common.{◌≡◌, ◌+◌, drop}
use Rattle.stmt_sem.specs.FlowSizes.{block_bytes}
use Rattle.stmt_sem.proofs.flow_sizes.block_size.Given as goal

-- the bytes so far and those that are left are all
abbrev pub invariant-loop-flow : goal.invariant-loop-flow
invariant-loop-flow l = l.total + block_bytes (drop l.flow-index l.flows) ≡ block_bytes l.flows
