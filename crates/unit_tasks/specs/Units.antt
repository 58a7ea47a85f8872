-- The units whose streams are worked through.
use Rattle.std.specs.Prelude.{◌≡◌, None}
use Rattle.m2_base.specs.Statics.BlockLimits.{limit_of}
use Rattle.m2_base.specs.Statics.Contexts.{Block}
use Rattle.m2_base.specs.Units.{Front, IsWholeBy, TextOf, UnitTexts}
use Rattle.stream_split.specs.Chains.{block_of, own_scope}
use Rattle.stream_split.specs.Fronts.{AreFronts}
use Rattle.stream_split.specs.Streams.{StreamOf, main_number, main_tokens, streams_of}

-- the block of a stream of a unit
abbrev pub block_in : UnitTexts → StreamOf → Block
block_in u s = block_of (main_number u) (own_scope u) (streams_of u) s

-- Nothing is left out of the unit, by what the grammar tells of the fronts of its texts, and it passes no limit.
pub record CanBeRun (u : UnitTexts) : Type 0 where
  pub limits : limit_of (main_tokens u) ≡ None
  pub front : TextOf → Front
  pub fronts : AreFronts front u
  pub whole : IsWholeBy front u
