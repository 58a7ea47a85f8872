use Rattle.std.proofs.Common.{FitsSigned, rules, w64}
use Rattle.std.specs.BTreeMap.{get}
use Rattle.std.specs.Ordering.{int_cmp}
use Rattle.std.proofs.lemmas.Int.{to_z-of_z}
use Rattle.case_labels.proofs.Steps.{none_left, one_lost, still_rise}
use Rattle.case_labels.proofs.covered.lose_within.Goals as goal

pub begins_within-requires : goal.begins_within-requires
begins_within-requires c = still_rise c.loop-from.invariant c.requires

pub loop-from-preserved : goal.loop-from-preserved
loop-from-preserved c =
    let fits : FitsSigned w64 c.in-Some.from = search rules in
    one_lost (to_z-of_z w64 c.in-Some.from fits) c.loop-from.invariant c.in-Some.ensures c.remove.ensures.updates.0

pub returns-clause-none : goal.returns-clause-none
returns-clause-none c =
    none_left (get int_cmp c.loop-from.steps) c.args.low c.args.high c.begins_within.result (to_z-of_z w64 c.args.low c.ranges.low) (to_z-of_z w64 c.args.high c.ranges.high) c.begins_within.ensures c.in_default.not-Some
