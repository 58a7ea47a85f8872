use Rattle.std.proofs.Common.{sym, subst}
use Rattle.m2_base.specs.Scopes.{Entered}
use Rattle.scope_core.specs.PlainScopes.{state_of}
use Rattle.scope_core.proofs.Filling.{filled_entered}
use Rattle.scope_core.proofs.plain_scopes.PlainScopesScopes.enter.Goals as goal

pub returns : goal.returns
returns c =
    subst (λ v. Entered (state_of c.args.self.now) (state_of v) c.args.rows.now) (sym c.put.ensures.filled)
    (filled_entered c.args.self.now c.args.rows.now c.put.ensures.sound c.requires)
