use Rattle.std.proofs.Common.{◌≡◌, ap, sym, refl}
use Rattle.m2_base.specs.Gives.{gives}
use Rattle.m2_base.specs.declared.builtins.Builtin.{Builtin}
use Rattle.m2_base.specs.declared.builtins.Builtin.TheVariants.{Halt}
use Rattle.const_eval.proofs.TypesThere.{standard_there}
use Rattle.block_code.specs.Coded.{in_error}
use Rattle.block_code.specs.StandardProcedures.{of_no_argument}
use Rattle.expr_sem.proofs.Operating.{described}
use Rattle.expr_sem.proofs.Selecting.{error_alone}
use Rattle.expr_sem.proofs.standard_procedures.of_no_argument.Goals as goal

not_halted : (f : Builtin) → (f ≡ Halt → ⊥) → gives in_error ≡ gives (of_no_argument f)
not_halted Halt h = absurd (h refl)
not_halted f h = refl

pub returns-in-Halt : goal.returns-in-Halt
returns-in-Halt c state notes site suits =
    described c.answered_as.result (c.answered_as.ensures state notes site _ _ _ (standard_there suits.around 10) c.one.ensures.made)
    (λ k. ap (λ (f : Builtin). gives (of_no_argument f)) (sym c.in-Halt.is))

pub returns-in_default : goal.returns-in_default
returns-in_default c state notes site suits =
    error_alone state notes _ site c.in_error.result _ c.in_error.ensures.told c.in_error.ensures.there (λ k. not_halted c.args.f c.in_default.not-Halt)
