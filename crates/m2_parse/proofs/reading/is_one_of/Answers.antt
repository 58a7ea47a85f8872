use Rattle.std.proofs.Common.{arith}
use Rattle.std.proofs.lemmas.Grind.{common_steps}
use Rattle.m2_parse.proofs.reading.is_one_of.Goals as goal

pub loop-other-preserved : goal.loop-other-preserved
loop-other-preserved c = grind (arith, common_steps)

pub returns-then-number : goal.returns-then-number
returns-then-number c = grind (arith, common_steps)

pub returns : goal.returns
returns c = grind (arith, common_steps)
