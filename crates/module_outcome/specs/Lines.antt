-- The lines that are printed.
use Rattle.std.specs.Prelude.{ℕ, List, [], ◌∷◌, ◌++◌}
use Rattle.m2_base.specs.Units.{UnitTexts}
use Rattle.m2_base.specs.declared.notes.Diag.{Diag}
use Rattle.unit_outcome.specs.Tokens.{IsAtToken}

abbrev pub line : List ℕ → List ℕ
line text = text ++ 10 ∷ []

-- the diagnostic stands at a token of a text of the unit, so that the listing has a line for it
abbrev pub HasLine : UnitTexts → Diag → Type 0
HasLine unit diag = IsAtToken unit diag
