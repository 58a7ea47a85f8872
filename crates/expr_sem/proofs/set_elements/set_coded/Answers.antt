use Rattle.std.proofs.Common.{◌∙◌, ap, subst, sym, ℤ, w64}
use Rattle.std.proofs.lemmas.Int.{to_z-of_z}
use Rattle.m2_base.specs.Gives.{gives}
use Rattle.m2_base.specs.Rows.{IsValue}
use Rattle.m2_base.specs.declared.operands.Operand.{Operand}
use Rattle.m2_base.specs.declared.operands.Operand.TheVariants.{Constant}
use Rattle.const_eval.specs.Sites.{IsOperand}
use Rattle.expr_sem.specs.Codings.{IsCoded, coded_in}
use Rattle.block_code.specs.Coded.{bare}
use Rattle.expr_sem.specs.Fragments.{part}
use Rattle.block_code.specs.SetElements.{set_by}
use Rattle.expr_sem.proofs.Operating.{described, value_alone}
use Rattle.expr_sem.proofs.Onwards.{just_wanted}
use Rattle.expr_sem.proofs.Sequencing.{made_before}
use Rattle.expr_sem.proofs.Without.{computed_set, value_fits}
use Rattle.expr_sem.proofs.set_elements.set_coded.Goals as goal

pub returns-in-Constant : goal.returns-in-Constant
returns-in-Constant c state notes site h k =
    let ns = c.args.fragments.now.nodes.items in
    let value : IsOperand state.frame (Constant c.in-Constant.field-0 c.in-Constant.bits) = subst (λ (o : Operand). IsOperand state.frame o) c.in-Constant.is k.set in
    let back = to_z-of_z w64 c.in-Constant.bits (value_fits c.in-Constant.bits value.1) in
    value_alone state notes ns site c.bare.result IsCoded coded_in (λ u. set_by c.args.of (part ns c.args.es.code) c.args.es.set)
    (c.bare.ensures.there _ ns (h, subst (λ (v : ℤ). IsValue v) (sym back) value.1)) (λ u. c.bare.ensures.told ns ∙ ap (λ (v : ℤ). bare (Constant c.args.of v)) back ∙ ap (λ o. set_by c.args.of (part ns c.args.es.code) o) (sym c.in-Constant.is))

pub returns-in-InError : goal.returns-in-InError
returns-in-InError c state notes site h k =
    let ns = c.args.fragments.now.nodes.items in
    value_alone state notes ns site c.in_error.result IsCoded coded_in (λ u. set_by c.args.of (part ns c.args.es.code) c.args.es.set)
    (c.in_error.ensures.there _ ns) (λ u. c.in_error.ensures.told ns ∙ ap (λ o. set_by c.args.of (part ns c.args.es.code) o) (sym c.in-InError.is))

pub returns-in_err-empty-in_default : goal.returns-in_err-empty-in_default
returns-in_err-empty-in_default c state notes site h k = just_wanted state notes site c.from_residual.result c.from_residual.ensures.0 c.in_err-empty-in_default.ensures.made

pub returns-in_ok-empty-in_default : goal.returns-in_ok-empty-in_default
returns-in_ok-empty-in_default c state notes site h k =
    let ns = c.args.fragments.now.nodes.items in
    let made = made_before _ c.args.es.code c.requires.code c.in_ok-empty-in_default.ensures.made c.then.ensures.made in
    described c.answered_as.result (c.answered_as.ensures state notes site _ _ _ h made)
    (λ u. ap (λ s. gives s) (computed_set c.args.of (part ns c.args.es.code) c.args.es.set c.in_default.not-Constant c.in_default.not-InError))
