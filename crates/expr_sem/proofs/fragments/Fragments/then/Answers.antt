use Rattle.std.proofs.Common.{arith}
use Rattle.expr_sem.specs.Fragments.{part}
use Rattle.block_code.proofs.Sizes.{size_then}
use Rattle.expr_sem.proofs.fragments.Fragments.then.Goals as goal

pub push-requires-clause-size : goal.push-requires-clause-size
push-requires-clause-size c = λ sound at.
    let ns = c.args.self.now.nodes.items in
    let e = size_then (part ns c.own-first.result) (part ns c.own-second.result) c.size.result c.size-2.result (c.size.ensures sound) (c.size-2.ensures sound) at in
    let s = c.in-Some.ensures in
    omega (arith, e, s)
