-- The rows that types stand for.
use Rattle.std.specs.Prelude.{◌<◌, ◌^◌}
use Rattle.m2_base.specs.States.{Frame}
use Rattle.m2_base.specs.declared.rows.Place.{Place}
use Rattle.m2_base.specs.declared.rows.RowMeaning.{RowMeaning}
use Rattle.type_rules.specs.Scenes.{IsSaid, IsThere}

-- what the row of some place says that can be asked for
pub record IsKindHere (f : Frame) (m : RowMeaning) : Type 0 where
  pub place : Place
  pub there : IsThere f place
  pub ordinal : place.ordinal < 2 ^ 32
  pub said : IsSaid f place m
