use Rattle.std.proofs.Common.{◌∙◌, ap, subst, sym}
use Rattle.m2_base.specs.declared.operands.Operand.{Operand}
use Rattle.const_eval.specs.Sites.{IsOperand}
use Rattle.const_eval.proofs.Later.{SuitsSite_read}
use Rattle.type_rules.specs.Sites.{context_of}
use Rattle.type_rules.proofs.Reading.{Reads-refl}
use Rattle.block_code.specs.Elements.{of_pointer, select_target_by}
use Rattle.expr_sem.specs.Fragments.{part}
use Rattle.expr_sem.proofs.Making.{after_question, question_failed, question_waits}
use Rattle.expr_sem.proofs.Operating.{described}
use Rattle.expr_sem.proofs.Selecting.{error_alone, no_pointer, no_target, pointer_given}
use Rattle.expr_sem.proofs.coder.Coder.select_target.Goals as goal

pub returns-then-is_some-clause-codes : goal.returns-then-is_some-clause-codes
returns-then-is_some-clause-codes g c = question_failed _ _ (Reads-refl _) _

pub stand-requires-clause-suits : goal.stand-requires-clause-suits
stand-requires-clause-suits g c = c.requires.suits.around

pub stand-requires-clause-there : goal.stand-requires-clause-there
stand-requires-clause-there g c = subst (λ (o : Operand). IsOperand (g.S.Scopes.state c.args.self.now.scopes.now).frame o) c.in-Variable.is c.requires.x.operand

pub returns-in-DontKnowYet-clause-codes : goal.returns-in-DontKnowYet-clause-codes
returns-in-DontKnowYet-clause-codes g c = question_waits _ _ c.stand.ensures.reads c.in-DontKnowYet.ensures.waits

pub returns-in_default-meaning-clause-codes : goal.returns-in_default-meaning-clause-codes
returns-in_default-meaning-clause-codes g c =
    let p = part c.args.self.now.fragments.now.nodes.items c.args.x.code in
    after_question c.refused.result c.stand.ensures.reads (c.refused.ensures (g.S.Scopes.state c.stand.new.scopes) _)
    (λ made in_hand told. let k = context_of (g.S.Scopes.state c.args.self.now.scopes.now).frame made c.args.self.now.site.now in
    no_pointer k c.args.at p c.in-Variable.of c.in-Known.value.1 c.in_default-meaning.not-Pointer ∙ ap (λ m. of_pointer k c.args.at p c.in-Variable.of m) (c.in-Known.ensures.kind made in_hand told)
    ∙ ap (λ o. select_target_by k c.args.first c.args.at p o) (sym c.in-Variable.is))

pub pointed-requires-clause-suits : goal.pointed-requires-clause-suits
pointed-requires-clause-suits g c = SuitsSite_read c.stand.ensures.reads c.requires.suits

pub pointed-requires-clause-code : goal.pointed-requires-clause-code
pointed-requires-clause-code g c = c.requires.x.code

pub returns-in-Pointer-clause-codes : goal.returns-in-Pointer-clause-codes
returns-in-Pointer-clause-codes g c =
    let p = part c.args.self.now.fragments.now.nodes.items c.args.x.code in
    after_question c.pointed.result c.stand.ensures.reads (c.pointed.ensures c.args.self.now.notes.now)
    (λ made in_hand told. let k = context_of (g.S.Scopes.state c.args.self.now.scopes.now).frame made c.args.self.now.site.now in
    pointer_given k c.args.at p c.in-Variable.of c.in-Pointer.to (sym c.in-Pointer.is ∙ c.in-Known.ensures.kind made in_hand told) ∙ ap (λ o. select_target_by k c.args.first c.args.at p o) (sym c.in-Variable.is))

pub returns-in-InError-clause-codes : goal.returns-in-InError-clause-codes
returns-in-InError-clause-codes g c =
    error_alone _ _ _ _ c.in_error.result _ c.in_error.ensures.told c.in_error.ensures.there
    (λ k. ap (λ o. select_target_by k c.args.first c.args.at (part c.args.self.now.fragments.now.nodes.items c.args.x.code) o) (sym c.in-InError.is))

pub returns-in-NotConstant-clause-codes : goal.returns-in-NotConstant-clause-codes
returns-in-NotConstant-clause-codes g c =
    error_alone _ _ _ _ c.in_error-in-NotConstant.result _ c.in_error-in-NotConstant.ensures.told c.in_error-in-NotConstant.ensures.there
    (λ k. ap (λ o. select_target_by k c.args.first c.args.at (part c.args.self.now.fragments.now.nodes.items c.args.x.code) o) (sym c.in-NotConstant.is))

pub returns-in_default-clause-codes : goal.returns-in_default-clause-codes
returns-in_default-clause-codes g c =
    described c.refused-in_default.result (c.refused-in_default.ensures (g.S.Scopes.state c.args.self.now.scopes.now) _)
    (λ k. no_target k c.args.first c.args.at (part c.args.self.now.fragments.now.nodes.items c.args.x.code) c.args.x.operand c.in_default.not-Variable c.in_default.not-InError c.in_default.not-NotConstant)
