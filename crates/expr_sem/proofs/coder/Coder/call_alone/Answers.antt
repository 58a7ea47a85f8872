use Rattle.std.proofs.Common.{ℕ, ap, false, map, sym}
use Rattle.m2_base.specs.Gives.{and_then}
use Rattle.m2_base.specs.Trees.{exprs}
use Rattle.m2_base.specs.Views.{designator_view, expr_view}
use Rattle.const_eval.proofs.ReadParts.{designator_at_seen}
use Rattle.expr_sem.specs.Codings.{with_types}
use Rattle.expr_sem.specs.ExpressionParts.{called_with}
use Rattle.block_code.specs.Expressions.{designated}
use Rattle.expr_sem.proofs.Onwards.{suits_after}
use Rattle.expr_sem.proofs.Operating.{coding_after, described, unknown, unmade}
use Rattle.expr_sem.proofs.Walking.{open_after, stands_after}
use Rattle.expr_sem.proofs.coder.Coder.call_alone.Goals as goal

pub returns-in-DontKnowYet-clause-codes : goal.returns-in-DontKnowYet-clause-codes
returns-in-DontKnowYet-clause-codes g c = unknown (rw c.in-DontKnowYet.is at c.in-Ok.ensures.codes)

pub returns-in-Err-clause-codes : goal.returns-in-Err-clause-codes
returns-in-Err-clause-codes g c = unmade c.in-Err.ensures.codes _

pub called_with-requires-clause-suits : goal.called_with-requires-clause-suits
called_with-requires-clause-suits g c = rw c.designated.ensures.keeps.site (suits_after (rw c.in-Known.is at c.in-Ok.ensures.codes) c.requires.suits)

pub called_with-requires-clause-withs : goal.called_with-requires-clause-withs
called_with-requires-clause-withs g c = rw c.designated.ensures.keeps.withs (open_after (rw c.in-Known.is at c.in-Ok.ensures.codes) c.args.self.now.withs.now c.requires.withs)

pub called_with-requires-clause-read : goal.called_with-requires-clause-read
called_with-requires-clause-read g c = rw c.designated.ensures.keeps.site c.requires.args

pub called_with-requires-clause-to : goal.called_with-requires-clause-to
called_with-requires-clause-to g c = stands_after (rw c.in-Known.is at c.in-Ok.ensures.codes)

pub returns-clause-codes : goal.returns-clause-codes
returns-clause-codes g c =
    let ws = with_types c.args.self.now.withs.now in
    let d = c.args.to.now in
    let args = exprs (map expr_view c.args.args.now) in
    described c.called_with.result (coding_after (λ k. designated k ws (designator_view d)) (λ x k. called_with k ws false d.first.at x args) c.called_with.result (rw c.in-Known.is at c.in-Ok.ensures.codes) (rw c.designated.ensures.keeps.withs at (rw c.designated.ensures.keeps.site at c.called_with.ensures.codes)))
    (λ k. ap (λ (at : ℕ). and_then (designated k ws (designator_view d)) (λ x. called_with k ws false at x args)) (sym (designator_at_seen d)))
