-- What outputs come to.
use Rattle.std.specs.Prelude.{◌≡◌, ℕ, List, [], Option, Some, None}
use Rattle.std.specs.List.{AllZip}
use Rattle.definition_keys.specs.Keys.{unit_keys}
use Rattle.m2_base.specs.Lists.{IsIn}
use Rattle.m2_base.specs.Units.{Front, IsDefinition, TextOf, UnitTexts}
use Rattle.m2_base.specs.declared.outputs.Output.{Output}
use Rattle.m2_base.specs.declared.outputs.StreamFault.{StreamFault}
use Rattle.object_file.specs.Validity.{IsValid}
use Rattle.stream_split.specs.Fronts.{AreFronts}
use Rattle.stream_split.specs.Streams.{streams_of}
use Rattle.unit_merge.specs.Objects.{HaveLowHeights, HaveTheirNumbers, contents_from}
use Rattle.unit_merge.specs.Outcome.{Outcome, or_object, outcome_of_faults}
use Rattle.unit_merge.specs.Outputs.{IsOutputOf, output_diags}
use Rattle.unit_merge.specs.TextFaults.{AreFaults}

-- What the outputs of a unit with these texts come to: what the first faults of the texts do, where one has a fault;
-- otherwise their diagnostics, or where there is none the object.
pub data IsMerged (front : TextOf → Front) (texts : UnitTexts) (outputs : List Output) : Outcome → Type 0 where
  of_faults : (faults : List (Option StreamFault)) (outcome : Outcome) → AreFaults texts faults
      → outcome_of_faults faults ≡ Some outcome → IsMerged front texts outputs outcome
  of_outputs : (faults : List (Option StreamFault)) → AreFaults texts faults → outcome_of_faults faults ≡ None
      → IsMerged front texts outputs
      (or_object (output_diags outputs) (contents_from (unit_keys front texts) texts outputs))

-- no text has a fault
abbrev pub HaveNoFaults : UnitTexts → Type 0
HaveNoFaults texts = (faults : List (Option StreamFault)) × AreFaults texts faults × (outcome_of_faults faults ≡ None)

-- What is asked of outputs: there is one for each stream, in their order, and it tells the stream's fault; where there
-- are neither faults nor diagnostics, they make a valid object. (That names have their numbers, and that heights are
-- numbers of 32 bits, is known of the values themselves.) Of the texts it is asked that all definition texts are in
-- the order, and that each has one front.
pub record CanBeMerged (texts : UnitTexts) (outputs : List Output) : Type 0 where
  pub each : AllZip IsOutputOf (streams_of texts) outputs
  pub all : (k : ℕ) → IsDefinition texts.list k → IsIn k texts.order
  pub front : TextOf → Front
  pub fronts : AreFronts front texts
  pub valid : HaveNoFaults texts → output_diags outputs ≡ [] → HaveTheirNumbers texts → HaveLowHeights texts outputs
      → IsValid (contents_from (unit_keys front texts) texts outputs)
