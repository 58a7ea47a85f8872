use Rattle.std.proofs.Common.{FitsSigned, rules, w64}
use Rattle.std.proofs.lemmas.Int.{to_z-of_z}
use Rattle.case_labels.proofs.Steps.{first_past}
use Rattle.case_labels.proofs.covered.begins_within.Goals as goal

pub returns-else-to-high : goal.returns-else-to-high
returns-else-to-high c =
    let fits : FitsSigned w64 c.in-Some.to.now = search rules in
    first_past c.args.steps.now c.args.low c.args.high c.next.new.self (c.in-Some.from.now, c.in-Some.to.now) (to_z-of_z w64 c.args.low c.ranges.low) (to_z-of_z w64 c.args.high c.ranges.high) (to_z-of_z w64 c.in-Some.to.now fits)
    (c.range.ensures.in_range tt) c.in-Some.ensures.steps c.requires c.if-to-high.false
