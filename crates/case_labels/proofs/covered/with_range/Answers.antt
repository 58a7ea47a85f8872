use Rattle.std.proofs.Common.{sym, ◌∙◌, true≢false, w64}
use Rattle.std.proofs.lemmas.Int.{to_z-of_z}
use Rattle.case_labels.proofs.Steps.{more_steps, more_within}
use Rattle.case_labels.proofs.covered.with_range.Goals as goal

pub returns-then-reaches : goal.returns-then-reaches
returns-then-reaches c = λ ranges steps.
    more_within c.args.low c.args.high (to_z-of_z w64 c.args.low c.ranges.low) (to_z-of_z w64 c.args.high c.ranges.high) steps (c.reaches.ensures.0 c.if-reaches.true)

pub returns : goal.returns
returns c = λ ranges steps.
    more_steps c.args.low c.args.high (to_z-of_z w64 c.args.low c.ranges.low) (to_z-of_z w64 c.args.high c.ranges.high) steps (λ r. absurd (true≢false (sym (c.reaches.ensures.1 r) ∙ c.if-reaches.false)))
    c.lose_within.ensures.lost c.lose_within.ensures.none c.in_ok-insert.ensures.updates.0
