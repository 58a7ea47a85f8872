use Rattle.std.proofs.Common.{◌∙◌, Ok, ap, sym}
use Rattle.m2_base.specs.Gives.{gives}
use Rattle.m2_base.specs.States.{Frame}
use Rattle.m2_base.specs.Statics.Operands.{operand_type}
use Rattle.m2_base.specs.Statics.Operations.{operate}
use Rattle.m2_base.specs.declared.operands.Operand.{Operand}
use Rattle.m2_base.specs.declared.operands.Operand.TheVariants.{Computed}
use Rattle.m2_base.specs.declared.replies.Ask.TheVariants.{Known}
use Rattle.type_rules.specs.Scenes.{IsThere}
use Rattle.const_eval.specs.Sites.{IsOperand}
use Rattle.block_code.specs.Coded.{value_code, with_char}
use Rattle.expr_sem.specs.Codings.{IsCoded, coded_in}
use Rattle.block_code.specs.Operators.{made, operation_code}
use Rattle.block_code.specs.Parts.{none}
use Rattle.expr_sem.proofs.Following.{by_coding, holds, still_coded, still_suits, then_unknown, then_wanted}
use Rattle.expr_sem.proofs.Onwards.{with_grown}
use Rattle.expr_sem.proofs.Operating.{coding_after, described, of_analysed, unknown, unmade, value_alone}
use Rattle.expr_sem.proofs.Sequencing.{Grows-refl}
use Rattle.expr_sem.proofs.Without.{made_without}
use Rattle.expr_sem.proofs.coder.Coder.two_coded.Goals as goal

pub returns-in-DontKnowYet-clause-codes : goal.returns-in-DontKnowYet-clause-codes
returns-in-DontKnowYet-clause-codes g c = unknown (of_analysed _ _ (rw c.in-DontKnowYet.is at c.in-Ok.ensures))

pub returns-in-Err-clause-codes : goal.returns-in-Err-clause-codes
returns-in-Err-clause-codes g c = unmade (of_analysed _ _ c.in-Err.ensures) _

pub operation_code-requires-clause-suits : goal.operation_code-requires-clause-suits
operation_code-requires-clause-suits g c = still_suits (by_coding (of_analysed c.args.self.now.fragments.now.nodes.items _ c.in-Ok.ensures)) c.requires.suits

pub operation_code-requires-clause-of : goal.operation_code-requires-clause-of
operation_code-requires-clause-of g c =
    let one = rw c.in-Known.is at c.in-Ok.ensures in
    holds (by_coding (of_analysed c.args.self.now.fragments.now.nodes.items _ one)) (λ (f : Frame). IsThere f c.in-Computed.of) (rw c.in-Computed.is at one.there)

pub operation_code-requires-clause-x : goal.operation_code-requires-clause-x
operation_code-requires-clause-x g c = still_coded (by_coding (of_analysed c.args.self.now.fragments.now.nodes.items _ c.in-Ok.ensures)) c.args.x.coded c.requires.x

pub operation_code-requires-clause-y : goal.operation_code-requires-clause-y
operation_code-requires-clause-y g c = still_coded (by_coding (of_analysed c.args.self.now.fragments.now.nodes.items _ c.in-Ok.ensures)) c.args.y.coded c.requires.y

pub returns-in-DontKnowYet-asked-clause-codes : goal.returns-in-DontKnowYet-asked-clause-codes
returns-in-DontKnowYet-asked-clause-codes g c =
    then_unknown (by_coding (of_analysed c.args.self.now.fragments.now.nodes.items _ c.in-Ok.ensures)) (rw c.in-DontKnowYet-asked.is at c.in-Ok-operation_code.ensures.codes)

pub returns-in-Err-operation_code-clause-codes : goal.returns-in-Err-operation_code-clause-codes
returns-in-Err-operation_code-clause-codes g c = then_wanted (by_coding (of_analysed c.args.self.now.fragments.now.nodes.items _ c.in-Ok.ensures)) (c.in-Err-operation_code.ensures.codes) _

pub returns-clause-codes : goal.returns-clause-codes
returns-clause-codes g c =
    let ns = c.args.self.now.fragments.now.nodes.items in
    let ms = c.operation_code.new.self.fragments.now.nodes.items in
    let x = c.args.x.coded in
    let y = c.args.y.coded in
    let analysed = rw c.in-Known.is at c.in-Ok.ensures in
    let one = of_analysed ns _ analysed in
    let two = rw c.in-Known-asked.is at c.in-Ok-operation_code.ensures.codes in
    let stands = holds (by_coding one) (λ (f : Frame). IsThere f c.in-Computed.of) (rw c.in-Computed.is at analysed.there) in
    coding_after (λ k. operate k c.args.op c.args.op_at x.operand c.args.x.at y.operand c.args.y.at)
    (λ r k. gives (made r (operation_code k.scene c.args.op (operand_type r) (operand_type y.operand) (value_code k (with_char k (coded_in ns x))) (value_code k (with_char k (coded_in ns y)))))) (Ok (Known c.made-2.result)) one
    (described _ (with_grown (λ p k. made (Computed c.in-Computed.of) p) c.made-2.result two (Grows-refl ms) (c.made-2.ensures.there (g.S.Scopes.state c.operated.new.scopes).frame ms stands two.there) (λ k. c.made-2.ensures.told ms))
    (λ k. ap (λ (o : Operand). gives (made o (operation_code k.scene c.args.op (operand_type o) (operand_type y.operand) (value_code k (with_char k (coded_in ns x))) (value_code k (with_char k (coded_in ns y))))))
    (sym c.in-Computed.is)))

pub returns-in_default-clause-codes : goal.returns-in_default-clause-codes
returns-in_default-clause-codes g c =
    let ns = c.args.self.now.fragments.now.nodes.items in
    let x = c.args.x.coded in
    let y = c.args.y.coded in
    let r = c.in-Known.value in
    let analysed = rw c.in-Known.is at c.in-Ok.ensures in
    let one = of_analysed ns _ analysed in
    coding_after (λ k. operate k c.args.op c.args.op_at x.operand c.args.x.at y.operand c.args.y.at)
    (λ r k. gives (made r (operation_code k.scene c.args.op (operand_type r) (operand_type y.operand) (value_code k (with_char k (coded_in ns x))) (value_code k (with_char k (coded_in ns y)))))) (Ok (Known c.made.result)) one
    (value_alone (g.S.Scopes.state c.operated.new.scopes) c.operated.new.notes ns c.args.self.now.site.now c.made.result IsCoded coded_in
    (λ k. made r (operation_code k.scene c.args.op (operand_type r) (operand_type y.operand) (value_code k (with_char k (coded_in ns x))) (value_code k (with_char k (coded_in ns y)))))
    (c.made.ensures.there (g.S.Scopes.state c.operated.new.scopes).frame ns (holds (by_coding one) (λ (f : Frame). IsOperand f r) analysed.there) tt)
    (λ k. c.made.ensures.told ns
    ∙ made_without r none (operation_code k.scene c.args.op (operand_type r) (operand_type y.operand) (value_code k (with_char k (coded_in ns x))) (value_code k (with_char k (coded_in ns y)))) c.in_default.not-Computed))
