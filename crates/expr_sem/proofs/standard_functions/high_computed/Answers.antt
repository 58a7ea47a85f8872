use Rattle.m2_base.specs.Standard.{cardinal}
use Rattle.m2_base.specs.declared.operands.Operand.TheVariants.{Computed}
use Rattle.const_eval.proofs.TypesThere.{standard_there}
use Rattle.block_code.specs.Coded.{coded}
use Rattle.expr_sem.proofs.Onwards.{with_grown}
use Rattle.expr_sem.proofs.Operating.{unknown, unmade}
use Rattle.expr_sem.proofs.Sequencing.{Grows-refl}
use Rattle.expr_sem.proofs.standard_functions.high_computed.Goals as goal

pub returns-in-DontKnowYet : goal.returns-in-DontKnowYet
returns-in-DontKnowYet g c notes = unknown (rw c.in-DontKnowYet.is at c.in-Ok.ensures notes)

pub returns-in-Err : goal.returns-in-Err
returns-in-Err g c notes = unmade (c.in-Err.ensures notes) _

pub returns : goal.returns
returns g c notes =
    let one = rw c.in-Known.is at c.in-Ok.ensures notes in
    with_grown (λ p k. coded (Computed cardinal) p) c.new.result one (Grows-refl c.high_code.new.fragments.nodes.items) (c.new.ensures.there _ c.high_code.new.fragments.nodes.items (standard_there c.requires.suits.around 1) one.there) (λ k. c.new.ensures.told c.high_code.new.fragments.nodes.items)
