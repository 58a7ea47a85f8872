use Rattle.std.proofs.Common.{◌∙◌, ℕ, ap, arith, subst, sym}
use Rattle.stmt_sem.specs.FlowSizes.{arms_bytes}
use Rattle.stmt_sem.specs.FlowTrees.{Measures, choice_among}
use Rattle.block_code.specs.Flows.{Flow, HasSize}
use Rattle.stmt_sem.proofs.FlowRows.{choice_is, choice_over}
use Rattle.stmt_sem.proofs.FlowsSized.{choice_sized}
use Rattle.stmt_sem.proofs.flows.Flow.choice.Goals as goal

pub returns : goal.returns
returns c =
    let ns = c.args.fragments.now.nodes.items in
    let arms = c.args.arms in
    let other = c.args.other in
    let k = c.in_ok-other_size.field-0 in
    let a = c.in_ok-arms_size.ensures ∙ ap (arms_bytes ns) c.deref.ensures.value in
    let b = c.in_ok-total.ensures in
    let d = c.saturating_sub-size.ensures in
    let j = c.jump_size.ensures in
    let measured : Measures (choice_among ns arms.items other) c.saturating_sub-size.result = subst (λ (n : ℕ). Measures (choice_among ns arms.items other) n) (omega (arith, a, b, d, j))
    (choice_sized ns c.requires.sound arms.items c.requires.arms other k (c.in_ok-other_size.ensures ns c.requires.other)) in
    record {
      there = (
        choice_over ns arms other c.requires.arms c.requires.other,
        λ t. subst (λ (f : Flow). HasSize f c.saturating_sub-size.result) (sym (choice_is ns arms other t)) (measured t),
      );
      flow_is = choice_is ns arms other;
    }
