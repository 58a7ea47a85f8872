-- What statements take of their parts, as the definitions see it.
use Rattle.std.specs.Prelude.{◌≡◌, ℕ, List}
use Rattle.m2_base.specs.States.{Frame}
use Rattle.m2_base.specs.declared.rows.Place.{Place}
use Rattle.m2_base.specs.declared.sites.Site.{Site}
use Rattle.type_rules.specs.Scenes.{IsThere, WhereTold}
use Rattle.type_rules.specs.Sites.{AreOfSite}
use Rattle.expr_sem.specs.Fragments.{IsIn, part}
use Rattle.block_code.specs.Parts.{Part}
use Rattle.expr_sem.specs.declared.fragments.Node.{Node}
use Rattle.stmt_sem.specs.FlowTrees.{IsCodeOf, flow_in}
use Rattle.block_code.specs.Flows as flow
use Rattle.stmt_sem.specs.declared.cases.Selected.{Selected}
use Rattle.stmt_sem.specs.declared.flows.Code.{Code}
use Rattle.stmt_sem.specs.declared.flows.Flow.{Flow}

-- the value of a selector, and its type
abbrev pub selector_in : List Node → Selected → Part × Place
selector_in ns x = (part ns x.value, x.of)

abbrev pub IsSelector : Frame → List Node → Selected → Type 0
IsSelector f ns x = IsIn ns x.value × IsThere f x.of

-- code of a statement's own, among these fragments
abbrev pub IsCellCode : Frame → List Node → Code → Type 0
IsCellCode f ns x = IsCodeOf ns x

-- where the texts are told, a flow stands for this code, whatever the cell is
abbrev pub StandsFor : Frame → Site → List Node → Flow → flow.Flow → Type 0
StandsFor f s ns x code = WhereTold f (λ made. AreOfSite s made → (cell : ℕ) → flow_in ns x cell ≡ code)
