-- What an analysis in progress leaves and gives.
use Rattle.std.specs.Prelude.{◌≡◌, ℕ, List, Result}
use Rattle.m2_base.specs.Gives.{Gives}
use Rattle.m2_base.specs.Lists.{Each}
use Rattle.m2_base.specs.States.{Frame, State}
use Rattle.m2_base.specs.Statics.Contexts.{Context}
use Rattle.m2_base.specs.declared.memory.Memory.{Memory}
use Rattle.m2_base.specs.declared.replies.Ask.{Ask}
use Rattle.type_rules.specs.Scenes.{IsThere}
use Rattle.type_rules.specs.Sites.{SuitsSite}
use Rattle.expr_sem.specs.Codings.{Coding}
use Rattle.expr_sem.specs.declared.coder.Coder.{Coder}
use Rattle.expr_sem.specs.declared.fragments.Node.{Node}

-- the fragments made so far
abbrev pub nodes_of : {X : Type 0} → Coder X → List Node
nodes_of c = c.fragments.now.nodes.items

-- the names of the texts
abbrev pub names_of : {X : Type 0} → Coder X → List (List ℕ)
names_of c = c.site.now.texts.now.names

-- what no search changes; `state` is what the scopes hold
abbrev pub frame_of : {X : Type 0} → (state : X → State) → Coder X → Frame
frame_of state c = (state c.scopes.now).frame

-- the scopes suit the site
abbrev pub SuitsPlace : {X : Type 0} → (state : X → State) → Coder X → Type 0
SuitsPlace state c = SuitsSite (frame_of state c) c.site.now

-- the types of the records of open WITHs can be asked for
abbrev pub SeesWiths : {X : Type 0} → (state : X → State) → Coder X → Type 0
SeesWiths state c = Each (λ w. IsThere (frame_of state c) w.of) c.withs.now

-- A coding, from an analysis in progress to what it is afterwards.
abbrev pub Codes : {X T V : Type 0} → (state : X → State) → (old new : Coder X) → (answer : Result (Ask T) Memory)
    → (MayStand : Frame → List Node → T → Type 0) → (as_given : List Node → T → V) → (given : Context → Gives V)
    → Type 0
Codes state old new answer MayStand as_given given =
    Coding (state old.scopes.now) (state new.scopes.now) old.notes.now new.notes.now (nodes_of old)
    (nodes_of new) old.site.now answer MayStand as_given given

-- It stands where it stood, and works on what it worked on.
pub record Keeps {X : Type 0} (old new : Coder X) : Type 0 where
  pub site : new.site ≡ old.site
  pub withs : new.withs ≡ old.withs
  pub scopes : new.scopes.ghost_name ≡ old.scopes.ghost_name
  pub fragments : new.fragments.ghost_name ≡ old.fragments.ghost_name
  pub notes : new.notes.ghost_name ≡ old.notes.ghost_name
