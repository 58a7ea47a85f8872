use Rattle.std.proofs.Common.{◌∙◌, subst, ap}
use Rattle.expr_sem.specs.Fragments.{IsIn, part}
use Rattle.block_code.specs.Parts.{steps_size}
use Rattle.expr_sem.specs.declared.fragments.Fragment.{Fragment}
use Rattle.expr_sem.proofs.Pushing.{sized_at}
use Rattle.expr_sem.proofs.fragments.Fragments.size.Goals as goal

pub returns-in-Node : goal.returns-in-Node
returns-in-Node c =
    let ns = c.args.self.now.nodes.items in
    λ sound at. ap (λ (f : Fragment). steps_size (part ns f at).code) c.in-Node.is
    ∙ sized_at ns c.in-Node.number c.index.result.now (subst (λ (f : Fragment). IsIn ns f) c.in-Node.is c.requires.there) c.index.ensures sound at
