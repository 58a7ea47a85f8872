-- What is asked of a unit's texts. It holds of every unit that is gathered whole.
use Rattle.std.specs.Prelude.{◌^◌, ◌<◌}
use Rattle.m2_base.specs.Fronts as fronts
use Rattle.m2_base.specs.Fronts.{IsFront}
use Rattle.m2_base.specs.Lists.{Each}
use Rattle.m2_base.specs.Statics.Blocks.{UnitTrees}
use Rattle.m2_base.specs.Units.{Front, IsWholeBy, TextOf, UnitTexts}
use Rattle.stream_split.specs.Fronts.{AreFronts}
use Rattle.merge_laws.specs.Outputs.{codes_in}

-- the grammar tells a front of the text
abbrev pub HasFront : TextOf → Type 0
HasFront t = (f : fronts.Front) × IsFront t.definition t.tokens f

-- Nothing is left out of the unit, by these fronts of its texts, which the grammar tells.
pub record IsWhole (front : TextOf → Front) (texts : UnitTexts) : Type 0 where
  pub told : Each HasFront texts.list
  pub fronts : AreFronts front texts
  pub whole : IsWholeBy front texts

-- the greatest heights of the main text's blocks are numbers of 32 bits
abbrev pub HaveLowHeights : UnitTrees → Type 0
HaveLowHeights u = Each (λ p. p.high < 2 ^ 32) (codes_in u)
