use Rattle.std.proofs.Common.{arith}
use Rattle.std.proofs.lemmas.Grind.{common_steps}
use Rattle.m2_base.proofs.Seen.{enum_seen, type_seen}
use Rattle.m2_parse.specs.ReadTypes.{enumeration_at}
use Rattle.m2_parse.proofs.types.enumeration.Goals as goal

pub returns-in_err-open : goal.returns-in_err-open
unfolding enumeration_at
returns-in_err-open c = grind (arith, common_steps)

pub returns-in_err-names : goal.returns-in_err-names
unfolding enumeration_at
returns-in_err-names c = grind (arith, common_steps)

pub returns-in_err-expect : goal.returns-in_err-expect
unfolding enumeration_at
returns-in_err-expect c = grind (arith, common_steps)

pub returns : goal.returns
unfolding enumeration_at
returns c = grind (arith, common_steps, type_seen, enum_seen)
