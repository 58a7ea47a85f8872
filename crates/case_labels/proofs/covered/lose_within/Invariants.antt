use Rattle.std.specs.BTreeMap.{btree_map_len, get}
use Rattle.std.specs.Ordering.{int_cmp}
use Rattle.case_labels.specs.Steps.{LoseWithin}
use Rattle.case_labels.proofs.covered.lose_within.Given as goal

abbrev pub invariant-loop-from : goal.invariant-loop-from
invariant-loop-from l = LoseWithin l.low l.high (get int_cmp l.fn.steps) (get int_cmp l.steps)

abbrev pub decreases-loop-from : goal.decreases-loop-from
decreases-loop-from l = btree_map_len l.steps
