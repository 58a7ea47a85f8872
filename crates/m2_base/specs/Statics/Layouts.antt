-- The layout of a block: what follows from the syntax alone, and how it grows by the names that imports bring.
use Rattle.std.specs.Prelude.{◌≡◌, ◌<◌, ◌≤◌, ◌^◌, List, [], flat_map, length, map, nat_eq, ℕ, ◌+◌, if◌then◌else◌}
use Rattle.std.specs.Prelude.{Option, option_map, slice_get, ◌∷◌, ◌++◌, ◌==◌}
use Rattle.std.specs.HashMap.{HashMap, get}
use Rattle.m2_base.specs.Lists.{Each}
pub use Rattle.m2_base.specs.Statics.Contexts.{Layout}
use Rattle.m2_base.specs.Statics.Contexts.{Named}
use Rattle.m2_base.specs.Statics.Items.{Item, items_of}
use Rattle.m2_base.specs.Statics.Lookup.{brought_before, entry_named}
use Rattle.m2_base.specs.Statics.Shapes.{Shape, item_shapes}
use Rattle.m2_base.specs.Trees.{Stream}
use Rattle.m2_base.specs.declared.limits.TheConstants.{MOST_BROUGHT}

-- the names among an item's rows, the first of which has this ordinal
abbrev pub names_of_item : (item ordinal : ℕ) → List Shape → List Named
names_of_item i o [] = []
names_of_item i o (s ∷ shapes) =
    if s.name == 0 then names_of_item i (o + 1) shapes
    else record { name = s.name; ordinal = o; kind = s.kind; at = s.at; item = i } ∷ names_of_item i (o + 1) shapes

-- the names of the items from this one on
abbrev pub names_from : (item ordinal : ℕ) → List Item → List Named
names_from i o [] = []
names_from i o (x ∷ items) =
    names_of_item i o (item_shapes x) ++ names_from (i + 1) (o + length (item_shapes x)) items

-- the first ordinal of each item from this one on, and the number of all rows
abbrev pub firsts_from : (ordinal : ℕ) → List Item → List ℕ
firsts_from o [] = o ∷ []
firsts_from o (x ∷ items) = o ∷ firsts_from (o + length (item_shapes x)) items

-- the layout of a block by its syntax, nothing brought yet
abbrev pub layout_of : Stream → Layout
layout_of s = record { names = names_from 0 0 (items_of s); firsts = firsts_from 0 (items_of s); brought = [] }

-- with the names that the next item has brought
abbrev pub extended : Layout → List Named → Layout
extended l [] = l
extended l (b ∷ brought) = record l { brought = l.brought ++ b ∷ brought }

-- with those that several items have brought, one after another
abbrev pub extended_by : Layout → List (List Named) → Layout
extended_by l [] = l
extended_by l (b ∷ brought) = extended_by (extended l b) brought

-- ** The rows of items with those of the names that they have brought

-- the row of a name that was brought
abbrev pub brought_shape : Named → Shape
brought_shape n = record { name = n.name; kind = n.kind; at = n.at }

-- the rows of an item and then those of the names that it has brought
abbrev pub with_brought : List Shape → List Named → List Shape
with_brought shapes [] = shapes
with_brought shapes (b ∷ brought) = shapes ++ brought_shape b ∷ map brought_shape brought

-- The rows of these items, by what each has brought. Items of which nothing is said have brought nothing.
abbrev pub laid_shapes : List Item → List (List Named) → List Shape
laid_shapes [] brought = []
laid_shapes (x ∷ items) [] = item_shapes x ++ laid_shapes items []
laid_shapes (x ∷ items) (b ∷ brought) = with_brought (item_shapes x) b ++ laid_shapes items brought

-- all that is brought
abbrev pub all_brought : List (List Named) → List Named
all_brought brought = flat_map (λ b. b) brought

-- ** What code keeps of a layout

-- the index gives the first entry of each name
abbrev pub IsIndexed : {S : Type 0} → HashMap ℕ Named S → List Named → Type 0
IsIndexed index names = (name : ℕ) → get nat_eq index name ≡ entry_named names name

-- each of these was brought by the item of the one before it or by a later one
abbrev pub Ascend : List Named → Type 0
Ascend [] = Unit {0}
Ascend (b ∷ brought) = Each (λ d. b.item ≤ d.item) brought × Ascend brought

-- they are in the order of their items, and not too many
pub record AreBrought (brought : List Named) : Type 0 where
  pub order : Ascend brought
  pub few : length brought ≤ MOST_BROUGHT

-- Ordinals have 32 bits, also those that are moved.
pub record HasSmallNumbers (names : List Named) (firsts : List ℕ) (brought : List Named) : Type 0 where
  pub names_small : Each (λ n. n.ordinal < 2 ^ 31) names
  pub firsts_small : Each (λ o. o ≤ 2 ^ 31) firsts
  pub few : length brought ≤ MOST_BROUGHT

-- the ordinal of the first row of an item; of the number of items that behind all rows
abbrev pub first_row : Layout → (item : ℕ) → Option ℕ
first_row l item = option_map (λ o. o + brought_before l.brought item) (slice_get l.firsts item)
