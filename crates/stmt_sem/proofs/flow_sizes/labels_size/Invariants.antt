use Rattle.std.proofs.Common.{◌≡◌, ◌+◌, drop}
use Rattle.stmt_sem.specs.FlowSizes.{labels_bytes}
use Rattle.stmt_sem.proofs.flow_sizes.labels_size.Given as goal

-- the bytes so far and those that are left are all
abbrev pub invariant-loop-label : goal.invariant-loop-label
invariant-loop-label l = l.total + labels_bytes (drop l.label-index l.labels) ≡ labels_bytes l.labels
