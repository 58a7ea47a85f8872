use Rattle.std.proofs.Common.{ℕ, ap, sym}
use Rattle.m2_base.specs.Gives.{and_then}
use Rattle.m2_base.specs.Views.{designator_view}
use Rattle.const_eval.proofs.ReadParts.{designator_at_seen}
use Rattle.expr_sem.specs.Codings.{with_types}
use Rattle.block_code.specs.Expressions.{designated}
use Rattle.expr_sem.proofs.Operating.{coding_after, described, unknown, unmade}
use Rattle.expr_sem.proofs.Walking.{stands_after}
use Rattle.block_code.specs.StandardFunctions.{as_variable}
use Rattle.stmt_sem.proofs.walker.Walker.variable.Goals as goal

pub returns-in-DontKnowYet-clause-codes : goal.returns-in-DontKnowYet-clause-codes
returns-in-DontKnowYet-clause-codes g c = unknown (rw c.in-DontKnowYet.is at c.in-Ok.ensures.codes)

pub returns-in-Err-clause-codes : goal.returns-in-Err-clause-codes
returns-in-Err-clause-codes g c = unmade c.in-Err.ensures.codes _

pub returns-clause-codes : goal.returns-clause-codes
returns-clause-codes g c =
    let d = c.args.of.now in
    let ws = with_types c.args.stand.now.withs.now in
    let one = (rw c.in-Known.is at c.in-Ok.ensures.codes) in
    described c.as_variable.result (coding_after (λ k. designated k ws (designator_view d)) (λ x k. as_variable k d.first.at x) c.as_variable.result one
    (c.as_variable.ensures (g.S.Scopes.state c.designated.new.self.scopes.now) c.designated.new.self.fragments.now.nodes.items (stands_after one)))
    (λ k. ap (λ (at : ℕ). and_then (designated k ws (designator_view d)) (λ x. as_variable k at x)) (sym (designator_at_seen d)))
