use Rattle.std.proofs.Common.{subst, sym}
use Rattle.std.specs.BTreeMap.{get}
use Rattle.std.specs.Ordering.{int_cmp}
use Rattle.case_labels.specs.Steps.{AreSteps}
use Rattle.case_labels.proofs.covered.Covered.with.Goals as goal

pub invariant_of-result : goal.invariant_of-result
invariant_of-result c = subst (AreSteps (get int_cmp c.in_ok-steps.steps)) (sym c.in_ok-push.ensures.items) (c.in_ok-steps.ensures c.self.inside.ranges.items c.self.invariant)
