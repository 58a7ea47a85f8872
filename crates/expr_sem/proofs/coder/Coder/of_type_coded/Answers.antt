use Rattle.std.proofs.Common.{refl}
use Rattle.m2_base.specs.Gives.{gives}
use Rattle.m2_base.specs.States.{Frame}
use Rattle.const_eval.specs.Calls.{of_type}
use Rattle.const_eval.specs.Sites.{IsOperand}
use Rattle.block_code.specs.Coded.{bare}
use Rattle.expr_sem.specs.Codings.{IsCoded, coded_in}
use Rattle.expr_sem.proofs.Onwards.{holds_after}
use Rattle.expr_sem.proofs.Operating.{coding_after, of_analysed, unknown, unmade, value_alone}
use Rattle.expr_sem.proofs.coder.Coder.of_type_coded.Goals as goal

pub of_type_noted-requires-clause-suits : goal.of_type_noted-requires-clause-suits
of_type_noted-requires-clause-suits g c = c.requires.suits

pub of_type_noted-requires-clause-x : goal.of_type_noted-requires-clause-x
of_type_noted-requires-clause-x g c = c.requires.x.operand

pub returns-in-DontKnowYet-clause-codes : goal.returns-in-DontKnowYet-clause-codes
returns-in-DontKnowYet-clause-codes g c =
    let ns = c.args.self.now.fragments.now.nodes.items in
    unknown (of_analysed ns _ (rw c.in-DontKnowYet.is at c.in-Ok.ensures))

pub returns-in-DontKnowYet-clause-keeps : goal.returns-in-DontKnowYet-clause-keeps
returns-in-DontKnowYet-clause-keeps g c = record { site = refl; withs = refl; scopes = refl; fragments = refl; notes = refl }

pub returns-in-Err-clause-codes : goal.returns-in-Err-clause-codes
returns-in-Err-clause-codes g c =
    let ns = c.args.self.now.fragments.now.nodes.items in
    unmade (of_analysed ns _ c.in-Err.ensures) _

pub returns-in-Err-clause-keeps : goal.returns-in-Err-clause-keeps
returns-in-Err-clause-keeps g c = record { site = refl; withs = refl; scopes = refl; fragments = refl; notes = refl }

pub returns-clause-codes : goal.returns-clause-codes
returns-clause-codes g c =
    let ns = c.args.self.now.fragments.now.nodes.items in
    let one = rw c.in-Known.is at c.in-Ok.ensures in
    coding_after (λ k. of_type k c.args.function c.args.at c.args.x.operand) (λ r k. gives (bare r)) _ (of_analysed ns _ one)
    (value_alone _ _ ns c.args.self.now.site.now c.bare.result IsCoded coded_in (λ k. bare c.in-Known.value)
    (c.bare.ensures.there _ ns (holds_after (of_analysed ns _ one) (λ (f : Frame). IsOperand f c.in-Known.value) one.there)) (λ k. c.bare.ensures.told ns))

pub returns-clause-keeps : goal.returns-clause-keeps
returns-clause-keeps g c = record { site = refl; withs = refl; scopes = refl; fragments = refl; notes = refl }
