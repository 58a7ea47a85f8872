use Rattle.std.proofs.Common.{◌∙◌, ap, sym}
use Rattle.m2_base.specs.Statics.Operations.{as_number}
use Rattle.m2_base.specs.declared.operands.Operand.TheVariants.{Constant}
use Rattle.const_eval.proofs.Besides.{number_stays}
use Rattle.const_eval.proofs.pairs.as_number.Goals as goal

pub eq-requires : goal.eq-requires
eq-requires c = tt

pub is_within-requires : goal.is_within-requires
is_within-requires c = tt

pub takes_base-requires : goal.takes_base-requires
takes_base-requires c = tt

pub returns-in_default-clause-told : goal.returns-in_default-clause-told
returns-in_default-clause-told c k standard =
    number_stays k c.args.at c.args.other (Constant c.in-Constant.field-0 c.in-Constant.value) (sym c.takes_base.ensures ∙ c.if-takes_base.false) ∙ ap (as_number k c.args.at c.args.other) (sym c.in-Constant.is)

pub returns-in_default-clause-there : goal.returns-in_default-clause-there
returns-in_default-clause-there c f there here = rw c.in-Constant.is at here
