use Rattle.std.proofs.Common.{ℕ, ◌∙◌, ap, subst, sym}
use Rattle.stmt_sem.specs.FlowTrees.{block_among}
use Rattle.stmt_sem.specs.FlowSizes.{block_bytes}
use Rattle.block_code.specs.Flows.{Flow, HasSize}
use Rattle.stmt_sem.proofs.FlowRows.{block_is, block_over}
use Rattle.stmt_sem.proofs.FlowsSized.{block_sized}
use Rattle.stmt_sem.proofs.flows.Flow.block.Goals as goal

pub returns : goal.returns
returns c ns there =
    let xs = c.args.flows in
    let size = c.in_ok-size.size in
    record {
      there = (
        block_over ns xs there,
        λ t. subst (λ (f : Flow). HasSize f size) (sym (block_is ns xs t)) (subst (λ (n : ℕ). HasSize (block_among ns xs.items t) n) (sym (c.in_ok-size.ensures ∙ ap block_bytes c.deref.ensures.value)) (block_sized ns xs.items there t)),
      );
      flow_is = block_is ns xs;
    }
