use Rattle.std.proofs.Common.{ℕ, ap, sym}
use Rattle.m2_base.specs.Gives.{and_then}
use Rattle.m2_base.specs.Views.{designator_view}
use Rattle.const_eval.proofs.ReadParts.{designator_at_seen}
use Rattle.expr_sem.proofs.Onwards.{suits_after}
use Rattle.expr_sem.proofs.Operating.{coding_after, described, unknown, unmade}
use Rattle.expr_sem.proofs.Walking.{stands_after}
use Rattle.stmt_sem.specs.Stands.{stand_in}
use Rattle.block_code.specs.Statements.{variable}
use Rattle.block_code.specs.Withs.{record_variable}
use Rattle.stmt_sem.proofs.walker.Walker.record_of.Goals as goal

pub returns-in-DontKnowYet-clause-codes : goal.returns-in-DontKnowYet-clause-codes
returns-in-DontKnowYet-clause-codes g c = unknown (rw c.in-DontKnowYet.is at c.in-Ok.ensures.codes)

pub returns-in-Err-clause-codes : goal.returns-in-Err-clause-codes
returns-in-Err-clause-codes g c = unmade c.in-Err.ensures.codes _

pub record_variable-requires-clause-suits : goal.record_variable-requires-clause-suits
record_variable-requires-clause-suits g c = suits_after (rw c.in-Known.is at c.in-Ok.ensures.codes) c.requires.stand.suits

pub record_variable-requires-clause-x : goal.record_variable-requires-clause-x
record_variable-requires-clause-x g c = (stands_after (rw c.in-Known.is at c.in-Ok.ensures.codes)).operand

pub returns-clause-codes : goal.returns-clause-codes
returns-clause-codes g c =
    let d = c.args.of.now in
    let s = c.args.stand.now in
    let one = (rw c.in-Known.is at c.in-Ok.ensures.codes) in
    described c.record_variable.result (coding_after (λ k. variable (stand_in k s) (designator_view d)) (λ x k. record_variable k d.first.at x) c.record_variable.result one
    (c.record_variable.ensures c.variable.new.self.fragments.now.nodes.items (stands_after one)))
    (λ k. ap (λ (at : ℕ). and_then (variable (stand_in k s) (designator_view d)) (λ x. record_variable k at x)) (sym (designator_at_seen d)))
