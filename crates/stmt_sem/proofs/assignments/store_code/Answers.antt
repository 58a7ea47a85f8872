use Rattle.std.proofs.Common.{Ok, ap, sym, refl}
use Rattle.m2_base.specs.Gives.{gives}
use Rattle.m2_base.specs.Statics.Operands.{operand_type}
use Rattle.m2_base.specs.declared.operands.Operand.{Operand}
use Rattle.m2_base.specs.declared.replies.Ask.TheVariants.{Known}
use Rattle.expr_sem.specs.Codings.{IsFragment, coded_in}
use Rattle.expr_sem.specs.Fragments.{part}
use Rattle.block_code.specs.Parts.{Part, none}
use Rattle.expr_sem.specs.declared.fragments.Fragment.TheVariants.{Nothing}
use Rattle.expr_sem.proofs.Operating.{described, value_alone}
use Rattle.block_code.specs.Assignments.{store_by}
use Rattle.stmt_sem.proofs.ActionCases.{store_other}
use Rattle.stmt_sem.proofs.assignments.store_code.Goals as goal

pub returns-in-InError : goal.returns-in-InError
returns-in-InError g c notes =
    let ns = c.args.fragments.now.nodes.items in
    described (Ok (Known Nothing)) (value_alone _ notes ns c.args.site.now Nothing IsFragment part (λ k. none) tt (λ k. refl))
    (λ k. ap (λ (o : Operand). gives (store_by k (operand_type c.args.to.operand) (part ns c.args.to.code) (coded_in ns c.args.x) o)) (sym c.in-InError.is))

pub returns-in-StringConstant : goal.returns-in-StringConstant
returns-in-StringConstant g c notes =
    let ns = c.args.fragments.now.nodes.items in
    described c.store_text.result (c.store_text.ensures notes) (λ k. ap (λ (o : Operand). gives (store_by k (operand_type c.args.to.operand) (part ns c.args.to.code) (coded_in ns c.args.x) o)) (sym c.in-StringConstant.is))

pub returns-in_default : goal.returns-in_default
returns-in_default g c notes =
    let ns = c.args.fragments.now.nodes.items in
    described c.store_value.result (c.store_value.ensures notes)
    (λ k. ap (λ (p : Part). gives p) (store_other k (operand_type c.args.to.operand) (part ns c.args.to.code) (coded_in ns c.args.x) c.args.x.operand c.in_default.not-InError c.in_default.not-StringConstant))
