-- What an analysis that makes flows leaves and gives, whose answer may not be known yet.
use Rattle.std.specs.Prelude.{ℕ, List, Result}
use Rattle.m2_base.specs.Asks.{IfKnown, IfWaits}
use Rattle.m2_base.specs.Gives.{Adds, Gives}
use Rattle.m2_base.specs.States.{Frame, State, Waits, Works}
use Rattle.m2_base.specs.Statics.Contexts.{Context}
use Rattle.m2_base.specs.declared.memory.Memory.{Memory}
use Rattle.m2_base.specs.declared.notes.Notes.{Notes}
use Rattle.m2_base.specs.declared.replies.Ask.{Ask}
use Rattle.m2_base.specs.declared.sites.Site.{Site}
use Rattle.type_rules.specs.Scenes.{WhereTold}
use Rattle.type_rules.specs.Sites.{AreOfSite, context_of}
use Rattle.expr_sem.specs.Fragments.{Grows}
use Rattle.expr_sem.specs.declared.fragments.Node.{Node}
use Rattle.stmt_sem.specs.FlowTrees.{IsOver}
use Rattle.stmt_sem.specs.declared.flows.Flow.{Flow}

-- a flow alone, of these fragments
abbrev pub IsFlow : Frame → List Node → Flow → Type 0
IsFlow f ns x = IsOver ns x

-- Previous notes stay, and each answer noted was found by a search. The scope that the answer waits for is incomplete,
-- and before the own one. The fragments made before stay. Where the texts are told, with rows of the site's item in
-- hand, a known answer and what is noted are the definition's, where each flow counts as the code that it stands for,
-- whatever the cell is. A known answer may stand at the place.
pub record Flowing {T V : Type 0} (old new : State) (before after : Notes) (from to : List Node) (s : Site)
    (answer : Result (Ask T) Memory) (MayStand : Frame → List Node → T → Type 0)
    (as_given : List Node → T → (cell : ℕ) → V)
    (given : Context → Gives V) : Type 0 where
  pub works : Works old new before after
  pub waits : IfWaits answer (λ h. Waits old new h)
  pub grows : Grows from to
  pub told : WhereTold old.frame (λ made.
      AreOfSite s made → IfKnown answer
      (λ x. (cell : ℕ) → Adds before after (given (context_of old.frame made s)) (as_given to x cell)))
  pub there : IfKnown answer (λ x. MayStand old.frame to x)
