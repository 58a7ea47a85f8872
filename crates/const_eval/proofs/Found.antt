-- An analysis by what its answer turned out to be.
use Rattle.std.proofs.Common.{◌≡◌, Result, Ok, subst}
use Rattle.m2_base.specs.Gives.{Gives}
use Rattle.m2_base.specs.States.{Frame, State}
use Rattle.m2_base.specs.Statics.Contexts.{Context}
use Rattle.m2_base.specs.declared.memory.Memory.{Memory}
use Rattle.m2_base.specs.declared.notes.Notes.{Notes}
use Rattle.m2_base.specs.declared.replies.Ask.{Ask}
use Rattle.m2_base.specs.declared.sites.Site.{Site}
use Rattle.const_eval.specs.Analyses.{Analysed}

module _ {T : Type 0} {a b : State} {x y : Notes} {s : Site} {P : Frame → T → Type 0} {g : Context → Gives T} where
  pub turned : {answer other : Result (Ask T) Memory} → answer ≡ other → Analysed a b x y s answer P g → Analysed a b x y s other P g
  turned e p = subst (λ (r : Result (Ask T) Memory). Analysed a b x y s r P g) e p

  -- the same where memory was found
  pub found : {asked other : Ask T} → asked ≡ other → Analysed a b x y s (Ok asked) P g → Analysed a b x y s (Ok other) P g
  found e p = subst (λ (r : Ask T). Analysed a b x y s (Ok r) P g) e p
