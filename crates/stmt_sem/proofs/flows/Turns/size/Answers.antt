use Rattle.std.proofs.Common.{◌≡◌, ◌+◌, arith, subst, ℕ}
use Rattle.expr_sem.specs.Fragments.{part}
use Rattle.stmt_sem.specs.FlowTrees.{Measures, code_by, flow_in, turns_in}
use Rattle.block_code.specs.Flows.{HasSize}
use Rattle.stmt_sem.proofs.FlowsSized.{counted_sized, if_ok}
use Rattle.stmt_sem.proofs.flows.Turns.size.Goals as goal

pub returns : goal.returns
returns c =
    let ns = c.args.fragments.now.nodes.items in
    let x = c.args.self.now in
    let a = c.in_ok-tests.ensures in
    let b = c.in_ok-rest.ensures in
    let d = c.in_ok-all.ensures in
    let j = c.jump_size-jump.ensures in
    let jump = c.jump_size-jump.result in
    if_ok (λ k. k ≡ c.in_ok-all.all + (jump + jump + jump)) (λ k. Measures (turns_in ns x) k) c.sum-4.result c.sum-4.ensures
    (λ k e t. subst (λ (n : ℕ). HasSize (turns_in ns x t) n) (omega (arith, a, b, d, e, j))
    (counted_sized (code_by ns x.first t) (flow_in ns x.body t) (code_by ns x.again t) (part ns x.step) (c.in_ok-size.ensures t) (c.requires.there.1.1 t) (c.in_ok-size-2.ensures t) (c.size-3.ensures c.requires.sound)))
