use Rattle.std.proofs.Common.{sym, subst}
use Rattle.m2_base.specs.Scopes.{Completed}
use Rattle.scope_core.specs.PlainScopes.{state_of}
use Rattle.scope_core.proofs.Filling.{closed_completed}
use Rattle.scope_core.proofs.plain_scopes.PlainScopesScopes.complete.Goals as goal

pub returns : goal.returns
returns c =
    subst (λ v. Completed (state_of c.args.self.now) (state_of v)) (sym c.finish.ensures.closed)
    (closed_completed c.args.self.now c.finish.ensures.sound)
