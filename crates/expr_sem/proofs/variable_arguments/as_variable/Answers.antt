use Rattle.std.proofs.Common.{ap, sym}
use Rattle.expr_sem.specs.Codings.{coded_in}
use Rattle.block_code.specs.StandardFunctions.{as_variable_by}
use Rattle.expr_sem.specs.Codings.{IsCoded}
use Rattle.expr_sem.proofs.Highs.{no_variable}
use Rattle.expr_sem.proofs.Operating.{described, value_alone}
use Rattle.std.proofs.Common.{refl}
use Rattle.expr_sem.proofs.Selecting.{error_alone}
use Rattle.expr_sem.proofs.variable_arguments.as_variable.Goals as goal

pub returns-in-Variable : goal.returns-in-Variable
returns-in-Variable c state nodes h =
    described _ (value_alone state c.args.notes.now nodes c.args.site.now c.args.x IsCoded coded_in (λ k. coded_in nodes c.args.x) h (λ k. refl))
    (λ k. ap (λ o. as_variable_by k c.args.at (coded_in nodes c.args.x) o) (sym c.in-Variable.is))

pub returns-in-InError : goal.returns-in-InError
returns-in-InError c state nodes h =
    error_alone _ _ _ _ c.in_error.result _ c.in_error.ensures.told c.in_error.ensures.there
    (λ k. ap (λ o. as_variable_by k c.args.at (coded_in nodes c.args.x) o) (sym c.in-InError.is))

pub returns-in-NotConstant : goal.returns-in-NotConstant
returns-in-NotConstant c state nodes h =
    error_alone _ _ _ _ c.in_error-in-NotConstant.result _ c.in_error-in-NotConstant.ensures.told c.in_error-in-NotConstant.ensures.there
    (λ k. ap (λ o. as_variable_by k c.args.at (coded_in nodes c.args.x) o) (sym c.in-NotConstant.is))

pub returns-in_default : goal.returns-in_default
returns-in_default c state nodes h =
    described c.refused.result (c.refused.ensures state nodes)
    (λ k. no_variable k c.args.at (coded_in nodes c.args.x) c.args.x.operand c.in_default.not-Variable c.in_default.not-InError c.in_default.not-NotConstant)
