use Rattle.std.proofs.Common.{arith}
use Rattle.std.proofs.lemmas.Grind.{common_steps}
use Rattle.m2_parse.proofs.tokens.Tokens.expect.Goals as goal

pub invariant_of-self : goal.invariant_of-self
invariant_of-self c = grind (arith, common_steps)

pub returns-in-len1-up-clause-gives : goal.returns-in-len1-up-clause-gives
returns-in-len1-up-clause-gives c = grind (arith, common_steps)

pub returns-in-len1-up-clause-fits : goal.returns-in-len1-up-clause-fits
returns-in-len1-up-clause-fits c = grind (arith, common_steps)

pub returns-in_default-clause-gives : goal.returns-in_default-clause-gives
returns-in_default-clause-gives c = grind (arith, common_steps)
