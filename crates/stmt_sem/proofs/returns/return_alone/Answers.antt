use Rattle.std.proofs.Common.{ap, sym, refl}
use Rattle.expr_sem.proofs.Making.{made_alone}
use Rattle.expr_sem.proofs.Operating.{described}
use Rattle.block_code.specs.Returns.{return_alone, return_code}
use Rattle.stmt_sem.proofs.returns.return_alone.Goals as goal

pub returns-in-None : goal.returns-in-None
returns-in-None c state =
    described c.answered.result (made_alone c.args.notes.now c.step.result c.answered.result (λ k. return_code) c.answered.ensures c.step.ensures.made (λ made. refl))
    (λ k. ap (return_alone k c.args.at) (sym c.in-None.is))

pub returns-in-Some : goal.returns-in-Some
returns-in-Some c state = described c.refused_code.result (c.refused_code.ensures state c.args.fragments.now.nodes.items) (λ k. ap (return_alone k c.args.at) (sym c.in-Some.is))
