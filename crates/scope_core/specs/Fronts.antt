-- What is shown of the finished rows of the own scope.
use Rattle.std.specs.Prelude.{◌≡◌, true, List}
use Rattle.m2_base.specs.Finished.{WhereFinished}
use Rattle.m2_base.specs.Lists.{IsPrefixOf}
use Rattle.m2_base.specs.States.{Frame, State, texts_of, fills_of}
use Rattle.m2_base.specs.Tables.{rows_at}
use Rattle.m2_base.specs.declared.rows.Row.{Row}

-- what is entered is the beginning of these rows, and all of them where the scope is complete
pub record IsFrontOf (f : Frame) (rows : List Row) : Type 0 where
  pub entered : IsPrefixOf f.entered rows
  pub whole : f.closed ≡ true → f.entered ≡ rows

-- what is entered is the front of the own scope's finished rows, if the unit has such
abbrev pub ShowsFront : State → Type 0
ShowsFront st = WhereFinished (texts_of st) (λ tables. IsFrontOf st.frame (rows_at tables (fills_of st)))
