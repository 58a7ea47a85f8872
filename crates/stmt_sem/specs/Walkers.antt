-- What an analysis of statements in progress leaves and gives.
use Rattle.std.specs.Prelude.{◌≡◌, ℕ, List, Result}
use Rattle.m2_base.specs.Gives.{Gives}
use Rattle.m2_base.specs.States.{Frame, State}
use Rattle.m2_base.specs.declared.memory.Memory.{Memory}
use Rattle.m2_base.specs.declared.replies.Ask.{Ask}
use Rattle.expr_sem.specs.Codings.{Coding}
use Rattle.expr_sem.specs.declared.fragments.Node.{Node}
use Rattle.stmt_sem.specs.Flowings.{Flowing}
use Rattle.stmt_sem.specs.Stands.{stand_in}
use Rattle.block_code.specs.Statements as statements
use Rattle.stmt_sem.specs.declared.stands.Stand.{Stand}
use Rattle.stmt_sem.specs.declared.walker.Walker.{Walker}

-- the fragments made so far
abbrev pub nodes_of : {X : Type 0} → Walker X → List Node
nodes_of w = w.fragments.now.nodes.items

-- what no search changes; `state` is what the scopes hold
abbrev pub frame_of : {X : Type 0} → (state : X → State) → Walker X → Frame
frame_of state w = (state w.scopes.now).frame

-- A coding at a stand, from an analysis in progress to what it is afterwards.
abbrev pub Codes : {X T V : Type 0} → (state : X → State) → (old new : Walker X) → (stand : Stand)
    → (answer : Result (Ask T) Memory) → (MayStand : Frame → List Node → T → Type 0) → (as_given : List Node → T → V)
    → (given : statements.Stand → Gives V) → Type 0
Codes state old new stand answer MayStand as_given given =
    Coding (state old.scopes.now) (state new.scopes.now) old.notes.now new.notes.now (nodes_of old)
    (nodes_of new) stand.site.now answer MayStand as_given (λ c. given (stand_in c stand))

-- The same of flows.
abbrev pub Walks : {X T V : Type 0} → (state : X → State) → (old new : Walker X) → (stand : Stand)
    → (answer : Result (Ask T) Memory) → (MayStand : Frame → List Node → T → Type 0)
    → (as_given : List Node → T → (cell : ℕ) → V) → (given : statements.Stand → Gives V) → Type 0
Walks state old new stand answer MayStand as_given given =
    Flowing (state old.scopes.now) (state new.scopes.now) old.notes.now new.notes.now (nodes_of old)
    (nodes_of new) stand.site.now answer MayStand as_given (λ c. given (stand_in c stand))

-- It works on what it worked on.
pub record Keeps {X : Type 0} (old new : Walker X) : Type 0 where
  pub scopes : new.scopes.ghost_name ≡ old.scopes.ghost_name
  pub fragments : new.fragments.ghost_name ≡ old.fragments.ghost_name
  pub notes : new.notes.ghost_name ≡ old.notes.ghost_name
