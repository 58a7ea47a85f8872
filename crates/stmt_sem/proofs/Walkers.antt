-- An analysis of statements in progress works on what it worked on.
use Rattle.std.proofs.Common.{◌∙◌, refl}
use Rattle.stmt_sem.specs.Walkers.{Keeps}
use Rattle.stmt_sem.specs.declared.walker.Walker.{Walker}

pub Keeps-refl : {X : Type 0} (a : Walker X) → Keeps a a
Keeps-refl a = record { scopes = refl; fragments = refl; notes = refl }

pub Keeps-trans : {X : Type 0} {a b c : Walker X} → Keeps a b → Keeps b c → Keeps a c
Keeps-trans p q = record { scopes = q.scopes ∙ p.scopes; fragments = q.fragments ∙ p.fragments; notes = q.notes ∙ p.notes }
