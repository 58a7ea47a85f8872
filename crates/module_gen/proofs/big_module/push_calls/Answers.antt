use Rattle.std.proofs.Common.{rules, arith, append_assoc}
use Rattle.module_gen.specs.BigModule.{call_text}
use Rattle.module_gen.proofs.Growing.{grown, whole}
use Rattle.module_gen.proofs.big_module.push_calls.Goals as goal

pub loop-number-preserved : goal.loop-number-preserved
loop-number-preserved c =
    let was = c.loop-number.invariant in
    (omega arith, grown call_text _ _ _ c.loop-number.number-counter was.0 was.1 (search (rules, append_assoc)))

pub returns : goal.returns
returns c = whole call_text _ _ c.loop-number.number-counter _ (omega arith) c.loop-number.invariant.1
