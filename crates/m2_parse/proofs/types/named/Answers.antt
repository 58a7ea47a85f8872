use Rattle.std.proofs.Common.{arith}
use Rattle.std.proofs.lemmas.Grind.{common_steps}
use Rattle.m2_base.proofs.Seen.{named_seen, sub_seen, type_seen}
use Rattle.m2_parse.specs.ReadTypes.{named_with, optional_range_with}
use Rattle.m2_parse.proofs.types.named.Goals as goal

pub returns-in_err-of : goal.returns-in_err-of
unfolding named_with optional_range_with
returns-in_err-of c = grind (arith, common_steps, type_seen, named_seen, sub_seen)

pub returns-then-not-next_is : goal.returns-then-not-next_is
unfolding named_with optional_range_with
returns-then-not-next_is c = grind (arith, common_steps, type_seen, named_seen, sub_seen)

pub returns-in_err-_at : goal.returns-in_err-_at
unfolding named_with optional_range_with
returns-in_err-_at c = grind (arith, common_steps, type_seen, named_seen, sub_seen)

pub returns : goal.returns
unfolding named_with optional_range_with
returns c = grind (arith, common_steps, type_seen, named_seen, sub_seen)
