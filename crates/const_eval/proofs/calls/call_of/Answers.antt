use Rattle.const_eval.proofs.Analysing.{described}
use Rattle.const_eval.proofs.CallKinds.{call_is}
use Rattle.const_eval.proofs.calls.call_of.Goals as goal

pub returns : goal.returns
returns g c list s = described c.call_with.result c.call_with.ensures (λ k. call_is k c.args.to.at c.args.to.operand c.args.args list s)
