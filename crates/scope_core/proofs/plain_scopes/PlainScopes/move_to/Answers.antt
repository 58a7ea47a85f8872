use Rattle.std.proofs.Common.{◌<◌, length, subst, sym}
use Rattle.scope_core.proofs.Filling.{moved_housed}
use Rattle.scope_core.proofs.plain_scopes.PlainScopes.move_to.Goals as goal

pub invariant_of-self : goal.invariant_of-self
invariant_of-self c =
    moved_housed _ c.args.scope _ c.self.invariant (subst (λ p. c.args.scope < length p.areas) (sym c.self.view_is) c.requires.1)
