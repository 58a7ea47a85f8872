use Rattle.std.proofs.Common.{◌∙◌, sym, ap, arith}
use Rattle.expr_sem.specs.Fragments.{part}
use Rattle.expr_sem.specs.declared.fragments.Fragment.{Fragment}
use Rattle.expr_sem.proofs.Pushing.{part_out}
use Rattle.expr_sem.proofs.fragments.Fragments.own.Goals as goal

pub returns-else-number-len-clause-same : goal.returns-else-number-len-clause-same
returns-else-number-len-clause-same c =
    let ns = c.args.self.now.nodes.items in
    let e = c.len.ensures in
    let h = c.if-number-len.false in
    sym (ap (λ (f : Fragment). part ns f) c.in-Node.is ∙ part_out ns c.in-Node.number (omega (arith, e, h)))
