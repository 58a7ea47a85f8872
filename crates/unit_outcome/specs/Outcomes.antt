-- What the texts of a unit come to.
use Rattle.m2_base.specs.Units.{Front, TextOf, UnitTexts}
use Rattle.merge_laws.specs.Outcome.{IsOutcome}
use Rattle.stream_split.specs.Fronts.{AreFronts}
use Rattle.unit_merge.specs.Outcome.{Outcome}

-- the texts come to this, by whichever fronts of them the grammar tells
abbrev pub ComesTo : UnitTexts → Outcome → Type 0
ComesTo texts outcome = (front : TextOf → Front) → AreFronts front texts → IsOutcome front texts outcome
