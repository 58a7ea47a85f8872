use Rattle.std.proofs.Common.{sym, subst}
use Rattle.expr_sem.specs.Codings.{high_in}
use Rattle.expr_sem.specs.Fragments.{IsMade}
use Rattle.expr_sem.proofs.Selecting.{high_made}
use Rattle.expr_sem.proofs.elements.high_or_none.Goals as goal

pub returns-in-Some : goal.returns-in-Some
returns-in-Some c = high_made c.args.fragments.now.nodes.items c.args.high c.in-Some.high c.in-Some.is c.requires.there

pub returns-in-None : goal.returns-in-None
returns-in-None c =
    subst (λ h. IsMade c.args.fragments.now.nodes.items c.one.new.self.nodes.items c.one.result (high_in c.args.fragments.now.nodes.items h)) (sym c.in-None.is) c.one.ensures.made
