use Rattle.std.proofs.Common.{◌∙◌, sym, ap, subst}
use Rattle.m2_base.specs.Gives.{gives}
use Rattle.m2_base.specs.Statics.Constants.{value_wanted}
use Rattle.m2_base.specs.Statics.Functions.{val_of}
use Rattle.m2_base.specs.declared.operands.Operand.TheVariants.{InError}
use Rattle.const_eval.specs.Calls.{call_kind, call_with, called, of_value}
use Rattle.const_eval.specs.Sites.{IsCall, IsOperand}
use Rattle.const_eval.specs.declared.calls.Call.{Call}
use Rattle.const_eval.proofs.Analysing.{and_after, described, failed, value_everywhere, waiting}
use Rattle.const_eval.proofs.CallKinds.{call_there, other_called}
use Rattle.const_eval.proofs.calls.call_with.Goals as goal

pub of_type_noted-requires-clause-x : goal.of_type_noted-requires-clause-x
of_type_noted-requires-clause-x g c =
    let f = (g.S.Scopes.state c.args.scopes.now).frame in
    subst (λ (call : Call). IsCall f call) (sym c.call_kind.ensures ∙ c.in-OfType.is) (call_there f c.standard_procedure.result c.args.args.shape c.requires.args)

pub returns-in-DontKnowYet : goal.returns-in-DontKnowYet
returns-in-DontKnowYet g c =
    let f = (g.S.Scopes.state c.args.scopes.now).frame in
    let there = subst (λ (call : Call). IsCall f call) (sym c.call_kind.ensures ∙ c.in-OfValue.is) (call_there f c.standard_procedure.result c.args.args.shape c.requires.args) in
    waiting (rw c.in-DontKnowYet.is at c.in-Ok.ensures (g.S.Scopes.state c.args.scopes.now) there)

pub returns-in-Err : goal.returns-in-Err
returns-in-Err g c =
    let f = (g.S.Scopes.state c.args.scopes.now).frame in
    let there = subst (λ (call : Call). IsCall f call) (sym c.call_kind.ensures ∙ c.in-OfValue.is) (call_there f c.standard_procedure.result c.args.args.shape c.requires.args) in
    failed (c.in-Err.ensures (g.S.Scopes.state c.args.scopes.now) there) _

pub of_value_noted-requires-clause-x : goal.of_value_noted-requires-clause-x
of_value_noted-requires-clause-x g c =
    let f = (g.S.Scopes.state c.args.scopes.now).frame in
    let there = subst (λ (call : Call). IsCall f call) (sym c.call_kind.ensures ∙ c.in-OfValue.is) (call_there f c.standard_procedure.result c.args.args.shape c.requires.args) in
    (rw c.in-Known.is at c.in-Ok.ensures (g.S.Scopes.state c.args.scopes.now) there).there

pub returns-in-Known : goal.returns-in-Known
returns-in-Known g c =
    let f = (g.S.Scopes.state c.args.scopes.now).frame in
    let there = subst (λ (call : Call). IsCall f call) (sym c.call_kind.ensures ∙ c.in-OfValue.is) (call_there f c.standard_procedure.result c.args.args.shape c.requires.args) in
    described c.of_value_noted.result
    (and_after (λ k. value_wanted k c.in-OfValue.arg.at c.in-OfValue.arg.operand) (λ v k. of_value k c.in-OfValue.function c.in-OfValue.arg.at v) c.of_value_noted.result
    (rw c.in-Known.is at c.in-Ok.ensures (g.S.Scopes.state c.args.scopes.now) there) c.of_value_noted.ensures)
    (λ k. ap (called k c.args.to.at c.args.args.spoilt) (sym c.in-OfValue.is ∙ c.call_kind.ensures ∙ ap (λ b. call_kind b c.args.args.shape) c.standard_procedure.ensures)
    ∙ ap (λ o. call_with k c.args.to.at o c.args.args) (sym c.in-StandardProcedure.is))

pub returns-in-DontKnowYet-asked : goal.returns-in-DontKnowYet-asked
returns-in-DontKnowYet-asked g c =
    let f = (g.S.Scopes.state c.args.scopes.now).frame in
    let there = subst (λ (call : Call). IsCall f call) (sym c.call_kind.ensures ∙ c.in-OfTypeAndValue.is) (call_there f c.standard_procedure.result c.args.args.shape c.requires.args) in
    waiting (rw c.in-DontKnowYet-asked.is at c.in-Ok-value_noted.ensures (g.S.Scopes.state c.args.scopes.now) there.1)

pub returns-in-Err-value_noted : goal.returns-in-Err-value_noted
returns-in-Err-value_noted g c =
    let f = (g.S.Scopes.state c.args.scopes.now).frame in
    let there = subst (λ (call : Call). IsCall f call) (sym c.call_kind.ensures ∙ c.in-OfTypeAndValue.is) (call_there f c.standard_procedure.result c.args.args.shape c.requires.args) in
    failed (c.in-Err-value_noted.ensures (g.S.Scopes.state c.args.scopes.now) there.1) _

pub val_of_operand-requires-clause-of : goal.val_of_operand-requires-clause-of
val_of_operand-requires-clause-of g c =
    let f = (g.S.Scopes.state c.args.scopes.now).frame in
    let there = subst (λ (call : Call). IsCall f call) (sym c.call_kind.ensures ∙ c.in-OfTypeAndValue.is) (call_there f c.standard_procedure.result c.args.args.shape c.requires.args) in
    there.0

pub val_of_operand-requires-clause-x : goal.val_of_operand-requires-clause-x
val_of_operand-requires-clause-x g c =
    let f = (g.S.Scopes.state c.args.scopes.now).frame in
    let there = subst (λ (call : Call). IsCall f call) (sym c.call_kind.ensures ∙ c.in-OfTypeAndValue.is) (call_there f c.standard_procedure.result c.args.args.shape c.requires.args) in
    (rw c.in-Known-asked.is at c.in-Ok-value_noted.ensures (g.S.Scopes.state c.args.scopes.now) there.1).there

pub returns-in-Known-asked : goal.returns-in-Known-asked
returns-in-Known-asked g c =
    let f = (g.S.Scopes.state c.args.scopes.now).frame in
    let there = subst (λ (call : Call). IsCall f call) (sym c.call_kind.ensures ∙ c.in-OfTypeAndValue.is) (call_there f c.standard_procedure.result c.args.args.shape c.requires.args) in
    described c.val_of_operand.result
    (and_after (λ k. value_wanted k c.in-OfTypeAndValue.arg.at c.in-OfTypeAndValue.arg.operand) (λ v k. val_of k c.in-OfTypeAndValue.of.at c.in-OfTypeAndValue.of.operand c.in-OfTypeAndValue.arg.at v) c.val_of_operand.result
    (rw c.in-Known-asked.is at c.in-Ok-value_noted.ensures (g.S.Scopes.state c.args.scopes.now) there.1) c.val_of_operand.ensures)
    (λ k. ap (called k c.args.to.at c.args.args.spoilt) (sym c.in-OfTypeAndValue.is ∙ c.call_kind.ensures ∙ ap (λ b. call_kind b c.args.args.shape) c.standard_procedure.ensures)
    ∙ ap (λ o. call_with k c.args.to.at o c.args.args) (sym c.in-StandardProcedure.is))

pub returns-in-OfType : goal.returns-in-OfType
returns-in-OfType g c =
    described c.of_type_noted.result c.of_type_noted.ensures (λ k. ap (called k c.args.to.at c.args.args.spoilt) (sym c.in-OfType.is ∙ c.call_kind.ensures ∙ ap (λ b. call_kind b c.args.args.shape) c.standard_procedure.ensures)
    ∙ ap (λ o. call_with k c.args.to.at o c.args.args) (sym c.in-StandardProcedure.is))

pub returns-in-OfNone : goal.returns-in-OfNone
returns-in-OfNone g c =
    let now = g.S.Scopes.state c.args.scopes.now in
    value_everywhere now c.args.notes.now c.args.site.now c.no_constant.result IsOperand (λ k. call_with k c.args.to.at c.args.to.operand c.args.args)
    (c.no_constant.ensures.there now.frame)
    (λ k. ap (λ o. gives o) c.no_constant.ensures.told ∙ ap (called k c.args.to.at c.args.args.spoilt) (sym c.in-OfNone.is ∙ c.call_kind.ensures ∙ ap (λ b. call_kind b c.args.args.shape) c.standard_procedure.ensures)
    ∙ ap (λ o. call_with k c.args.to.at o c.args.args) (sym c.in-StandardProcedure.is))

pub returns-in-WrongCount : goal.returns-in-WrongCount
returns-in-WrongCount g c =
    described c.fault_noted.result (c.fault_noted.ensures (g.S.Scopes.state c.args.scopes.now)) (λ k. ap (called k c.args.to.at c.args.args.spoilt) (sym c.in-WrongCount.is ∙ c.call_kind.ensures ∙ ap (λ b. call_kind b c.args.args.shape) c.standard_procedure.ensures)
    ∙ ap (λ o. call_with k c.args.to.at o c.args.args) (sym c.in-StandardProcedure.is))

pub returns-in-ModuleName : goal.returns-in-ModuleName
returns-in-ModuleName g c =
    described c.fault_noted-in-ModuleName.result (c.fault_noted-in-ModuleName.ensures (g.S.Scopes.state c.args.scopes.now)) (λ k. ap (λ o. call_with k c.args.to.at o c.args.args) (sym c.in-ModuleName.is))

pub returns-in-InError : goal.returns-in-InError
returns-in-InError g c =
    value_everywhere (g.S.Scopes.state c.args.scopes.now) c.args.notes.now c.args.site.now InError IsOperand (λ k. call_with k c.args.to.at c.args.to.operand c.args.args) tt
    (λ k. ap (λ o. call_with k c.args.to.at o c.args.args) (sym c.in-InError.is))

pub returns-in_default : goal.returns-in_default
returns-in_default g c =
    let now = g.S.Scopes.state c.args.scopes.now in
    value_everywhere now c.args.notes.now c.args.site.now c.no_constant-in_default.result IsOperand (λ k. call_with k c.args.to.at c.args.to.operand c.args.args)
    (c.no_constant-in_default.ensures.there now.frame)
    (λ k. ap (λ o. gives o) c.no_constant-in_default.ensures.told ∙ other_called k c.args.to.at c.args.to.operand c.args.args c.in_default.not-StandardProcedure c.in_default.not-ModuleName c.in_default.not-InError)

pub call_kind-requires : goal.call_kind-requires
call_kind-requires g c = tt

pub fault_noted-requires : goal.fault_noted-requires
fault_noted-requires g c = tt

pub fault_noted-requires-in-ModuleName : goal.fault_noted-requires-in-ModuleName
fault_noted-requires-in-ModuleName g c = tt

pub no_constant-requires : goal.no_constant-requires
no_constant-requires g c = tt

pub no_constant-requires-in_default : goal.no_constant-requires-in_default
no_constant-requires-in_default g c = tt

pub standard_procedure-requires : goal.standard_procedure-requires
standard_procedure-requires g c = tt

pub value_noted-requires : goal.value_noted-requires
value_noted-requires g c = tt

pub value_noted-requires-in-OfTypeAndValue : goal.value_noted-requires-in-OfTypeAndValue
value_noted-requires-in-OfTypeAndValue g c = tt

pub of_type_noted-requires-clause-suits : goal.of_type_noted-requires-clause-suits
of_type_noted-requires-clause-suits g c = c.requires.suits

pub of_value_noted-requires-clause-suits : goal.of_value_noted-requires-clause-suits
of_value_noted-requires-clause-suits g c = c.requires.suits

pub val_of_operand-requires-clause-suits : goal.val_of_operand-requires-clause-suits
val_of_operand-requires-clause-suits g c = c.requires.suits
