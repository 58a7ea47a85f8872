-- What a unit comes to, by the definitions of its texts and its blocks, which know no streams.
use Rattle.std.specs.Prelude.{◌≡◌, List, flat_map, Option, Some}
use Rattle.listings.specs.Ordering.{in_order}
use Rattle.m2_base.specs.Finished.{AreRead}
use Rattle.m2_base.specs.Statics.Blocks.{UnitTrees}
use Rattle.m2_base.specs.Units.{Front, TextOf, UnitTexts}
use Rattle.m2_base.specs.declared.notes.Diag.{Diag}
use Rattle.m2_base.specs.declared.outputs.StreamFault.{StreamFault}
use Rattle.unit_merge.specs.Outcome.{Outcome, or_object, outcome_of_faults}
use Rattle.unit_merge.specs.TextFaults.{AreFaults}
use Rattle.merge_laws.specs.Outputs.{noted_in}
use Rattle.merge_laws.specs.UnitObject.{object_of}

-- the diagnostics of all blocks, in order, each once
abbrev pub unit_diags : UnitTrees → List Diag
unit_diags u = in_order (flat_map (λ diags. diags) (noted_in u))

-- What the texts of a unit come to, of which these are the fronts: what their first faults do, where one has a fault;
-- otherwise they spell the trees of the unit, and come to the diagnostics of all blocks,
-- or where there is none to the object.
pub data IsOutcome (front : TextOf → Front) (texts : UnitTexts) : Outcome → Type 0 where
  of_faults : (faults : List (Option StreamFault)) (outcome : Outcome) → AreFaults texts faults
      → outcome_of_faults faults ≡ Some outcome → IsOutcome front texts outcome
  of_trees : (u : UnitTrees) → AreRead texts u
      → IsOutcome front texts (or_object (unit_diags u) (object_of front texts u))
