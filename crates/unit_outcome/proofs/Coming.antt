-- What merging gives is what the unit comes to, and it comes to nothing else.
use Rattle.std.specs.Prelude.{◌≡◌, List, Result, Ok, Err, IfOk}
use Rattle.def_import.specs.Answers.{IsWhole}
use Rattle.m2_base.specs.Units.{Front, IsUnit, TextOf, UnitTexts}
use Rattle.m2_base.specs.declared.outputs.Output.{Output}
use Rattle.merge_laws.specs.Outcome.{IsOutcome}
use Rattle.merge_laws.specs.Outputs.{AreOutputs}
use Rattle.merge_laws.specs.Texts as merging
use Rattle.stream_split.specs.Fronts.{AreFronts}
use Rattle.unit_merge.specs.Merging.{IsMerged}
use Rattle.unit_merge.specs.Outcome.{Outcome, outcome_view}
use Rattle.unit_merge.specs.declared.merging.Merged.{Merged}
use Rattle.unit_outcome.specs.Outcomes.{ComesTo}
use Rattle.unit_outcome.proofs.Fronts.{gathered_whole}

-- the law on merging
abbrev pub MergingGives : Type 0
MergingGives = (texts : UnitTexts) (front : TextOf → Front) (outputs : List Output) (outcome : Outcome) → IsUnit texts → merging.IsWhole front texts
    → AreOutputs texts outputs → IsMerged front texts outputs outcome → IsOutcome front texts outcome

pub comes_to : {E : Type 0} (r : Result Merged E) (u : UnitTexts) (outputs : List Output) → MergingGives → IsUnit u → IsWhole u → AreOutputs u outputs
    → ((front : TextOf → Front) → AreFronts front u → IfOk r (λ merged. IsMerged front u outputs (outcome_view merged))) → IfOk r (λ merged. ComesTo u (outcome_view merged))
comes_to (Err e) u outputs law unit whole outs merged = tt
comes_to (Ok m) u outputs law unit whole outs merged = λ front are. law u front outputs (outcome_view m) unit (gathered_whole u front whole are) outs (merged front are)

-- the law on outcomes
abbrev pub HaveOne : Type 0
HaveOne = (texts : UnitTexts) (these those : Outcome) → IsUnit texts → IsWhole texts → ComesTo texts these → ComesTo texts those → these ≡ those

pub comes_only : {E : Type 0} (r : Result Merged E) (u : UnitTexts) → HaveOne → IsUnit u → IsWhole u → IfOk r (λ merged. ComesTo u (outcome_view merged))
    → IfOk r (λ merged. (other : Outcome) → ComesTo u other → other ≡ outcome_view merged)
comes_only (Err e) u law unit whole comes = tt
comes_only (Ok m) u law unit whole comes = λ other that. law u other (outcome_view m) unit whole that comes
