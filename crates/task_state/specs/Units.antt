-- The unit of a stream, as its task asks it.
use Rattle.std.specs.Prelude.{◌≡◌, ℕ, slice_get, None, Some}
use Rattle.m2_base.specs.States.{Setting}
use Rattle.m2_base.specs.Statics.BlockLimits.{limit_of}
use Rattle.m2_base.specs.Units.{Front, IsUnit, IsWholeBy, TextOf}
use Rattle.m2_base.specs.declared.sites.Around.{Around}
use Rattle.stream_split.specs.Chains.{around_view, block_of, own_scope}
use Rattle.stream_split.specs.Fronts.{AreFronts}
use Rattle.stream_split.specs.Sizes.{sizes_of}
use Rattle.stream_split.specs.Streams.{StreamOf, main_number, main_tokens, streams_of}

-- The stream is one of a unit's, and its block is surrounded as the streams say; the scopes are the unit's, have the
-- room that the streams ask, and fill the stream's own. Nothing is left out of the unit, by what the grammar tells of
-- the fronts of its texts, and it passes no limit.
pub record IsOfUnit (g : Setting) (s : StreamOf) (a : Around) : Type 0 where
  pub unit : IsUnit g.texts
  pub limits : limit_of (main_tokens g.texts) ≡ None
  pub front : TextOf → Front
  pub fronts : AreFronts front g.texts
  pub whole : IsWholeBy front g.texts
  pub index : ℕ
  pub there : slice_get (streams_of g.texts) index ≡ Some s
  pub around : around_view a ≡ block_of (main_number g.texts) (own_scope g.texts) (streams_of g.texts) s
  pub fills : g.fills ≡ s.stream
  pub areas : g.areas ≡ sizes_of (streams_of g.texts)
