-- What an analysis leaves and gives, whose answer may not be known yet.
use Rattle.std.specs.Prelude.{Result}
use Rattle.m2_base.specs.Asks.{IfKnown, IfWaits}
use Rattle.m2_base.specs.Gives.{Adds, Gives}
use Rattle.m2_base.specs.States.{Frame, State, Waits, Works}
use Rattle.m2_base.specs.Statics.Contexts.{Context}
use Rattle.m2_base.specs.declared.memory.Memory.{Memory}
use Rattle.m2_base.specs.declared.notes.Notes.{Notes}
use Rattle.m2_base.specs.declared.replies.Ask.{Ask}
use Rattle.m2_base.specs.declared.sites.Site.{Site}
use Rattle.type_rules.specs.Scenes.{WhereTold}
use Rattle.type_rules.specs.Sites.{AreOfSite, context_of}

-- Previous notes stay, and each answer noted was found by a search. The scope that the answer waits for is incomplete,
-- and before the own one. Where the texts are told, with rows of the
-- site's item in hand, a known answer and what is noted are the definition's. A known answer may
-- stand at the place.
pub record Analysed {T : Type 0} (old new : State) (before after : Notes) (s : Site) (answer : Result (Ask T) Memory)
    (MayStand : Frame → T → Type 0) (given : Context → Gives T) : Type 0 where
  pub works : Works old new before after
  pub waits : IfWaits answer (λ h. Waits old new h)
  pub told : WhereTold old.frame (λ made.
      AreOfSite s made → IfKnown answer (λ v. Adds before after (given (context_of old.frame made s)) v))
  pub there : IfKnown answer (λ v. MayStand old.frame v)
