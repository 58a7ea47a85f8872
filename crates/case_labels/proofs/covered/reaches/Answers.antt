use Rattle.std.proofs.Common.{FitsSigned, rules, w64}
use Rattle.std.proofs.lemmas.Int.{to_z-of_z}
use Rattle.case_labels.proofs.Steps.{reached}
use Rattle.case_labels.proofs.covered.reaches.Goals as goal

pub returns-in-Some : goal.returns-in-Some
returns-in-Some c =
    let fits : FitsSigned w64 c.in-Some.high.now = search rules in
    reached c.args.steps.now c.args.from c.args.to c.next_back.new.self (c.in-Some.field-0-0.now, c.in-Some.high.now) (to_z-of_z w64 c.args.from c.ranges.from) (to_z-of_z w64 c.args.to c.ranges.to) (to_z-of_z w64 c.in-Some.high.now fits)
    (c.range.ensures.in_range tt) c.in-Some.ensures.steps c.requires
