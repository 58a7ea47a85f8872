use Rattle.std.proofs.Common.{ℕ, ap, sym, ◌∙◌}
use Rattle.m2_base.specs.Gives.{and_then}
use Rattle.m2_base.specs.Statics.Constants.{constant_or_refused, operand_in, value_wanted}
use Rattle.m2_base.specs.Trees.{expr_at}
use Rattle.m2_base.specs.Views.{expr_view}
use Rattle.const_eval.specs.Parts.{value_in}
use Rattle.const_eval.proofs.Analysing.{and_after, and_then_assoc, described, failed, waiting}
use Rattle.const_eval.proofs.ReadParts.{at_seen}
use Rattle.const_eval.proofs.RefusedConstants.{caused, unrefused, unspoilt}
use Rattle.const_eval.proofs.Sequences.{stands_after}
use Rattle.const_eval.proofs.constants.constant.Goals as goal

pub returns-in-DontKnowYet-clause-analysed : goal.returns-in-DontKnowYet-clause-analysed
returns-in-DontKnowYet-clause-analysed g c = waiting (rw c.in-DontKnowYet.is at c.in-Ok.ensures)

pub returns-in-DontKnowYet-clause-unrefused : goal.returns-in-DontKnowYet-clause-unrefused
returns-in-DontKnowYet-clause-unrefused g c made in_hand told of_site = tt

pub returns-in-DontKnowYet-clause-unspoilt : goal.returns-in-DontKnowYet-clause-unspoilt
returns-in-DontKnowYet-clause-unspoilt g c made in_hand told of_site = tt

pub returns-in-DontKnowYet-clause-caused : goal.returns-in-DontKnowYet-clause-caused
returns-in-DontKnowYet-clause-caused g c made in_hand told of_site = tt

pub returns-in-Err-clause-analysed : goal.returns-in-Err-clause-analysed
returns-in-Err-clause-analysed g c = failed c.in-Err.ensures _

pub returns-in-Err-clause-unrefused : goal.returns-in-Err-clause-unrefused
returns-in-Err-clause-unrefused g c made in_hand told of_site = tt

pub returns-in-Err-clause-unspoilt : goal.returns-in-Err-clause-unspoilt
returns-in-Err-clause-unspoilt g c made in_hand told of_site = tt

pub returns-in-Err-clause-caused : goal.returns-in-Err-clause-caused
returns-in-Err-clause-caused g c made in_hand told of_site = tt

pub returns-clause-analysed : goal.returns-clause-analysed
returns-clause-analysed g c =
    let one = rw c.in-Known.is at c.in-Ok.ensures in
    let tree = expr_view c.args.e.now in
    let two = c.constant_or_refused.ensures (g.S.Scopes.state c.value_in.new.scopes) (stands_after one) in
    described c.constant_or_refused.result (and_after (λ k. value_in k tree) (λ v k. constant_or_refused k c.args.e.now.at v) c.constant_or_refused.result one two)
    (λ k. ap (λ (at : ℕ). and_then (value_in k tree) (λ v. constant_or_refused k at v)) (sym (at_seen c.args.e.now))
    ∙ and_then_assoc (operand_in k tree) (λ o. value_wanted k (expr_at tree) o) (λ v. constant_or_refused k (expr_at tree) v))

pub returns-clause-unrefused : goal.returns-clause-unrefused
returns-clause-unrefused g c = unrefused (expr_view c.args.e.now) c.constant_or_refused.result c.requires.suits (returns-clause-analysed g c)

pub returns-clause-unspoilt : goal.returns-clause-unspoilt
returns-clause-unspoilt g c = unspoilt (expr_view c.args.e.now) c.constant_or_refused.result c.requires.suits (returns-clause-analysed g c)

pub returns-clause-caused : goal.returns-clause-caused
returns-clause-caused g c = caused (expr_view c.args.e.now) c.constant_or_refused.result c.requires.suits (returns-clause-analysed g c)

pub constant_or_refused-requires : goal.constant_or_refused-requires
constant_or_refused-requires g c = tt

pub value_in-requires : goal.value_in-requires
value_in-requires g c = record { suits = c.requires.suits; read = c.requires.read }
