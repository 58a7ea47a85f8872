use Rattle.const_eval.proofs.Operating.{unsigned}
use Rattle.const_eval.proofs.numbers.with_sign.Goals as goal

pub returns-in_default : goal.returns-in_default
returns-in_default c = record { told = λ k. unsigned k c.args.operator.operator c.args.operator.at c.args.of _ c.args.operand c.in_default.not-Constant; there = λ f there. there }
