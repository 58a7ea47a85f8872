use Rattle.std.proofs.Common.{arith}
use Rattle.std.proofs.lemmas.Grind.{common_steps}
use Rattle.m2_parse.proofs.leading.leading_count.Goals as goal

pub loop-token-preserved : goal.loop-token-preserved
loop-token-preserved c = grind (arith, common_steps)

pub returns-then-is_outside : goal.returns-then-is_outside
returns-then-is_outside c = grind (arith, common_steps)

pub returns : goal.returns
returns c = grind (arith, common_steps)
