use Rattle.std.proofs.Common.{subst}
use Rattle.scope_core.specs.PlainScopes.{IsSoundly}
use Rattle.scope_core.proofs.plain_scopes.PlainScopes.reply.Goals as goal

pub returns-clause-sound : goal.returns-clause-sound
returns-clause-sound c = subst IsSoundly c.self.view_is c.self.invariant.sound
