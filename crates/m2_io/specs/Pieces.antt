-- What a sink that hands on pieces shows.
use Rattle.std.specs.Prelude.{ℕ, List}
use Rattle.m2_io.specs.declared.pieces.Pieces.{Pieces}

module _ {A : Type 0} where
  -- the sink that it hands on to
  abbrev pub sink_of : Pieces A → A
  sink_of pieces = pieces.sink

  -- the bytes that it keeps back itself
  abbrev pub kept_in : Pieces A → List ℕ
  kept_in pieces = pieces.kept.items
