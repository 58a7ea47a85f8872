use Rattle.std.proofs.Common.{◌∙◌, Ok, ap}
use Rattle.m2_base.specs.Gives.{gives}
use Rattle.m2_base.specs.States.{Frame}
use Rattle.m2_base.specs.Statics.Operations.{apply_one}
use Rattle.m2_base.specs.declared.replies.Ask.TheVariants.{Known}
use Rattle.const_eval.specs.Sites.{IsOperand}
use Rattle.block_code.specs.Coded.{Coded, value_code}
use Rattle.expr_sem.specs.Codings.{IsCoded, coded_in}
use Rattle.expr_sem.specs.Fragments.{part}
use Rattle.block_code.specs.Operators.{made, one_instr}
use Rattle.block_code.specs.Parts.{none, plain, ◌⨟◌}
use Rattle.expr_sem.proofs.Following.{by_coding, holds, still_coded, still_suits, then_unknown, then_wanted}
use Rattle.expr_sem.proofs.Operating.{coding_after, described, of_analysed, unknown, unmade, value_alone}
use Rattle.expr_sem.proofs.Without.{made_computed, made_without}
use Rattle.expr_sem.proofs.coder.Coder.one_coded.Goals as goal

pub returns-in-DontKnowYet-clause-codes : goal.returns-in-DontKnowYet-clause-codes
returns-in-DontKnowYet-clause-codes g c = unknown (of_analysed _ _ (rw c.in-DontKnowYet.is at c.in-Ok.ensures))

pub returns-in-Err-clause-codes : goal.returns-in-Err-clause-codes
returns-in-Err-clause-codes g c = unmade (of_analysed _ _ c.in-Err.ensures) _

pub value_code-requires-clause-suits : goal.value_code-requires-clause-suits
value_code-requires-clause-suits g c = still_suits (by_coding (of_analysed c.args.self.now.fragments.now.nodes.items _ c.in-Ok.ensures)) c.requires.suits

pub value_code-requires-clause-x : goal.value_code-requires-clause-x
value_code-requires-clause-x g c = still_coded (by_coding (of_analysed c.args.self.now.fragments.now.nodes.items _ c.in-Ok.ensures)) c.args.x c.requires.x

pub returns-in-DontKnowYet-asked-clause-codes : goal.returns-in-DontKnowYet-asked-clause-codes
returns-in-DontKnowYet-asked-clause-codes g c =
    then_unknown (by_coding (of_analysed c.args.self.now.fragments.now.nodes.items _ c.in-Ok.ensures)) (rw c.in-DontKnowYet-asked.is at c.in-Ok-value_code.ensures c.applied_one.new.notes)

pub returns-in-Err-value_code-clause-codes : goal.returns-in-Err-value_code-clause-codes
returns-in-Err-value_code-clause-codes g c = then_wanted (by_coding (of_analysed c.args.self.now.fragments.now.nodes.items _ c.in-Ok.ensures)) (c.in-Err-value_code.ensures c.applied_one.new.notes) _

pub signed-requires : goal.signed-requires
signed-requires g c = (rw c.in-Known-asked.is at c.in-Ok-value_code.ensures c.applied_one.new.notes).there

pub returns-clause-codes : goal.returns-clause-codes
returns-clause-codes g c =
    let ns = c.args.self.now.fragments.now.nodes.items in
    let given = c.in-Known.value in
    let r = c.answered_as.result in
    let analysed = rw c.in-Known.is at c.in-Ok.ensures in
    let one = of_analysed ns _ analysed in
    let two = rw c.in-Known-asked.is at c.in-Ok-value_code.ensures c.applied_one.new.notes in
    let stands = holds (by_coding two) (λ (f : Frame). IsOperand f given) (holds (by_coding one) (λ (f : Frame). IsOperand f given) analysed.there) in
    coding_after (λ k. apply_one k c.args.op c.args.op_at c.args.x.operand) (λ o k. gives (made o (value_code k (coded_in ns c.args.x) ⨟ plain (one_instr c.args.op)))) r one
    (coding_after (λ k. gives (value_code k (coded_in ns c.args.x))) (λ p k. gives (made given (p ⨟ plain (one_instr c.args.op)))) r two
    (described r (c.answered_as.ensures (g.S.Scopes.state c.value_code.new.scopes) c.applied_one.new.notes c.args.self.now.site.now _ _ _ stands c.signed.ensures)
    (λ k. ap (λ (u : Coded). gives u) (made_computed given _ (part c.value_code.new.fragments.nodes.items c.in-Known-asked.value ⨟ plain (one_instr c.args.op)) c.in-Computed.is))))

pub returns-in_default-clause-codes : goal.returns-in_default-clause-codes
returns-in_default-clause-codes g c =
    let ns = c.args.self.now.fragments.now.nodes.items in
    let r = c.in-Known.value in
    let analysed = rw c.in-Known.is at c.in-Ok.ensures in
    let one = of_analysed ns _ analysed in
    coding_after (λ k. apply_one k c.args.op c.args.op_at c.args.x.operand) (λ r k. gives (made r (value_code k (coded_in ns c.args.x) ⨟ plain (one_instr c.args.op)))) (Ok (Known c.made.result)) one
    (value_alone (g.S.Scopes.state c.applied_one.new.scopes) c.applied_one.new.notes ns c.args.self.now.site.now c.made.result IsCoded coded_in (λ k. made r (value_code k (coded_in ns c.args.x) ⨟ plain (one_instr c.args.op)))
    (c.made.ensures.there (g.S.Scopes.state c.applied_one.new.scopes).frame ns (holds (by_coding one) (λ (f : Frame). IsOperand f r) analysed.there) tt)
    (λ k. c.made.ensures.told ns ∙ made_without r none (value_code k (coded_in ns c.args.x) ⨟ plain (one_instr c.args.op)) c.in_default.not-Computed))
