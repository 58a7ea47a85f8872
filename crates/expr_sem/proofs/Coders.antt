-- An analysis in progress stays where it stands, and works on what it worked on.
use Rattle.std.proofs.Common.{◌∙◌, List, Result, refl}
use Rattle.m2_base.specs.Gives.{Gives}
use Rattle.m2_base.specs.States.{Frame, State}
use Rattle.m2_base.specs.Statics.Contexts.{Context}
use Rattle.m2_base.specs.declared.memory.Memory.{Memory}
use Rattle.m2_base.specs.declared.replies.Ask.{Ask}
use Rattle.expr_sem.specs.Coders.{Codes, Keeps, nodes_of}
use Rattle.expr_sem.specs.Codings.{Coding}
use Rattle.expr_sem.specs.declared.coder.Coder.{Coder}
use Rattle.expr_sem.specs.declared.fragments.Node.{Node}
use Rattle.expr_sem.specs.declared.pieces.With.{With}

pub Keeps-refl : {X : Type 0} (a : Coder X) → Keeps a a
Keeps-refl a = record { site = refl; withs = refl; scopes = refl; fragments = refl; notes = refl }

pub Keeps-trans : {X : Type 0} {a b c : Coder X} → Keeps a b → Keeps b c → Keeps a c
Keeps-trans p q =
    record { site = q.site ∙ p.site; withs = q.withs ∙ p.withs; scopes = q.scopes ∙ p.scopes; fragments = q.fragments ∙ p.fragments; notes = q.notes ∙ p.notes }

-- what is said of an analysis at the place where it stood first
pub at_old : {X T V : Type 0} (state : X → State) {old mid : Coder X} (new : Coder X) {answer : Result (Ask T) Memory} {P : Frame → List Node → T → Type 0} {as_p : List Node → T → V} (given : List With → Context → Gives V) → Keeps old mid
    → Codes state mid new answer P as_p (given mid.withs.now)
    → Coding (state mid.scopes.now) (state new.scopes.now) mid.notes.now new.notes.now (nodes_of mid) (nodes_of new) old.site.now answer P as_p (given old.withs.now)
at_old state new given p q = rw p.withs at (rw p.site at q)
