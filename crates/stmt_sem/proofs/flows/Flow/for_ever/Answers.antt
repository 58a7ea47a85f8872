use Rattle.std.proofs.Common.{◌≡◌, ap, arith, subst, sym, ℕ}
use Rattle.stmt_sem.specs.FlowTrees.{IsOver, flow_in}
use Rattle.block_code.specs.Flows.{HasSize, for_ever}
use Rattle.stmt_sem.specs.declared.flows.Flow.{Flow}
use Rattle.stmt_sem.proofs.FlowsSized.{for_ever_sized}
use Rattle.stmt_sem.proofs.flows.Flow.for_ever.Goals as goal

pub returns : goal.returns
returns c ns there =
    let held = c.in_ok-body.body.value in
    let same = c.in_ok-body.ensures.ok in
    let over : IsOver ns held = subst (λ (x : Flow). IsOver ns x) (sym same) there in
    let size : held.size ≡ c.args.body.size = ap (λ (x : Flow). x.size) same in
    let a = c.in_ok-size.ensures in
    record {
      there = (over, λ t. subst (λ (n : ℕ). HasSize (for_ever (flow_in ns held t)) n) (omega (arith, a, size)) (for_ever_sized (flow_in ns held t) (over.1 t)));
      flow_is = λ t. ap (λ (x : Flow). for_ever (flow_in ns x t)) same;
    }
