-- The shapes of an item's rows, as the code sees it.
use Rattle.std.proofs.Common.{◌≡◌, List, [], ◌∷◌, ◌++◌, map, refl, ap}
use Rattle.std.specs.Prelude.{flat_map}
use Rattle.m2_base.specs.Statics.Shapes.{own_section_shapes, section_shapes}
use Rattle.m2_base.specs.Views.{section_view}
use Rattle.m2_base.specs.declared.trees.declarations.Section.{Section}

flat_map_map : {X Y Z : Type 0} (f : Y → List Z) (view : X → Y) (xs : List X) → flat_map f (map view xs) ≡ flat_map (λ x. f (view x)) xs
flat_map_map f view [] = refl
flat_map_map f view (x ∷ xs) = ap (λ rest. f (view x) ++ rest) (flat_map_map f view xs)

pub own_sections : (sections : List Section) → flat_map own_section_shapes (map section_view sections) ≡ flat_map (λ s. own_section_shapes (section_view s)) sections
own_sections sections = flat_map_map own_section_shapes section_view sections

pub outer_sections : (sections : List Section) → flat_map section_shapes (map section_view sections) ≡ flat_map (λ s. section_shapes (section_view s)) sections
outer_sections sections = flat_map_map section_shapes section_view sections

pub ruleset of_items = (own_sections, outer_sections)
