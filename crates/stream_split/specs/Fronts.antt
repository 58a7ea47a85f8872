-- The fronts of a unit's texts are those that the grammar tells.
use Rattle.std.specs.Prelude.{◌≡◌, option_map, map}
use Rattle.m2_base.specs.Fronts as fronts
use Rattle.m2_base.specs.Fronts.{IsFront}
use Rattle.m2_base.specs.Lists.{Each}
use Rattle.m2_base.specs.Units.{Front, TextOf, UnitTexts}

-- a front, by the names alone
abbrev pub front_of : fronts.Front → Front
front_of f = record {
  name = option_map (λ i. i.name) f.name;
  implementation = f.implementation;
  imports = map (λ i. i.name) f.imports;
}

-- the front of each text is the one that the grammar tells
abbrev pub AreFronts : (front : TextOf → Front) → UnitTexts → Type 0
AreFronts front u = Each (λ t. (f : fronts.Front) → IsFront t.definition t.tokens f → front t ≡ front_of f) u.list
