use Rattle.std.proofs.Common.{◌≡◌, ap, arith, subst, sym, ℕ}
use Rattle.expr_sem.specs.Fragments.{part}
use Rattle.stmt_sem.specs.FlowTrees.{IsOver, flow_in}
use Rattle.block_code.specs.Flows.{HasSize, until_true}
use Rattle.stmt_sem.specs.declared.flows.Flow.{Flow}
use Rattle.stmt_sem.proofs.FlowsSized.{until_sized}
use Rattle.stmt_sem.proofs.flows.Flow.until_true.Goals as goal

pub returns : goal.returns
returns c =
    let ns = c.args.fragments.now.nodes.items in
    let test = part ns c.args.test in
    let held = c.in_ok-body.body.value in
    let same = c.in_ok-body.ensures.ok in
    let over : IsOver ns held = subst (λ (x : Flow). IsOver ns x) (sym same) c.requires.body in
    let size : held.size ≡ c.args.body.size = ap (λ (x : Flow). x.size) same in
    let a = c.in_ok-once.ensures in
    let b = c.in_ok-size.ensures in
    record {
      there = (
        (over, c.requires.test),
        λ t. subst (λ (n : ℕ). HasSize (until_true (flow_in ns held t) test) n) (omega (arith, a, b, size)) (until_sized (flow_in ns held t) test (over.1 t) (c.size.ensures c.requires.sound)),
      );
      flow_is = λ t. ap (λ (x : Flow). until_true (flow_in ns x t) test) same;
    }
