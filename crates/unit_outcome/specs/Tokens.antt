-- Where a diagnostic of a unit stands.
use Rattle.std.specs.Prelude.{◌≡◌, ◌<◌, Some, length, slice_get}
use Rattle.m2_base.specs.Units.{TextOf, UnitTexts}
use Rattle.m2_base.specs.declared.notes.Diag.{Diag}

-- the diagnostic stands at a token of a text of the unit
abbrev pub IsAtToken : UnitTexts → Diag → Type 0
IsAtToken texts diag = (t : TextOf) × (slice_get texts.list diag.text ≡ Some t) × (diag.at < length t.tokens)
