use Rattle.std.proofs.Common.{arith}
use Rattle.std.proofs.lemmas.Grind.{common_steps}
use Rattle.scope_core.proofs.Flying.{none_yet}
use Rattle.scope_core.proofs.flight.first_reply.Goals as goal

pub returns-else-is_empty : goal.returns-else-is_empty
returns-else-is_empty c = none_yet c.args.chain.now (grind (arith, common_steps))
