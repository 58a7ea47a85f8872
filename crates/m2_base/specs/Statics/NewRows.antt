-- Rows that are new in their scope, one after another.
use Rattle.std.specs.Prelude.{◌≡◌, ◌⊎◌, false, List, [], ◌∷◌}
use Rattle.m2_base.specs.Rows.{Row}
use Rattle.m2_base.specs.Statics.Contexts.{Scene}
use Rattle.m2_base.specs.Statics.Lookup.{has_name}
use Rattle.m2_base.specs.Statics.Makes.{scene_with}

-- the row has no name, or one that no row of the own scope has
abbrev pub IsNew : Scene → Row → Type 0
IsNew scene r = (r.name ≡ 0) ⊎ (has_name scene.tables scene.block.scope r.name ≡ false)

-- each row is new after those before it
pub data AreNew : Scene → List Row → Type 0 where
  no_new : {scene : Scene} → AreNew scene []
  more_new : {scene : Scene} {r : Row} {rows : List Row} → IsNew scene r → AreNew (scene_with scene (r ∷ [])) rows
      → AreNew scene (r ∷ rows)
