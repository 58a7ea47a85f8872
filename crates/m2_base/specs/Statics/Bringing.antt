-- Which items bring names.
use Rattle.std.specs.Prelude.{◌≡◌, ◌≤◌, Bool, true, false, List, [], Some, length}
use Rattle.std.specs.List.{AllZip}
use Rattle.m2_base.specs.Statics.Contexts.{Named}
use Rattle.m2_base.specs.Statics.Items.{Item, import_item}
use Rattle.m2_base.specs.Statics.Layouts.{all_brought}
use Rattle.m2_base.specs.declared.limits.TheConstants.{MOST_BROUGHT}

-- the item is a name of a module, behind FROM
abbrev pub may_bring : Item → Bool
may_bring (import_item (Some m) i) = true
may_bring other = false

-- an item that is no name of a module brings nothing
abbrev pub BringsIts : Item → List Named → Type 0
BringsIts x brought = may_bring x ≡ false → brought ≡ []

-- Each of these items has brought these names: only names of modules bring any, and all of them not too many.
pub record HaveBrought (items : List Item) (brought : List (List Named)) : Type 0 where
  pub each : AllZip BringsIts items brought
  pub few : length (all_brought brought) ≤ MOST_BROUGHT
