use Rattle.std.proofs.Common.{◌≡◌, ◌∙◌, ◌+◌, ◌<◌, ℕ, List, arith, length, subst, sym}
use Rattle.block_code.specs.Cases.{labels_code}
use Rattle.std.proofs.Common.{map}
use Rattle.std.proofs.lemmas.List.{at_drop_all}
use Rattle.case_labels.specs.declared.tests.LabelTest.{LabelTest}
use Rattle.stmt_sem.specs.FlowSizes.{labels_bytes}
use Rattle.case_labels.specs.Seen.{test_seen}
use Rattle.stmt_sem.proofs.FlowsSized.{PartHas, labels_sized}
use Rattle.stmt_sem.proofs.flow_sizes.labels_size.Goals as goal

pub returns : goal.returns
returns c t =
    let ls = c.args.labels.now in
    let some : 0 < length ls = grind (arith, c.is_empty.ensures, c.if-is_empty.false) in
    let size = c.jump_size-jump.ensures in
    let all : c.loop-label.total + 0 ≡ labels_bytes ls = sym (at_drop_all (λ (l : List LabelTest). c.loop-label.total + labels_bytes l) ls c.loop-label.label-index c.loop-label-test.false) ∙ c.loop-label.invariant in
    let less = c.saturating_sub.ensures in
    subst (λ (n : ℕ). PartHas (labels_code t (map test_seen ls)) n) (omega (arith, size, all, less)) (labels_sized t ls some)
