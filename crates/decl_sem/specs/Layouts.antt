-- The layout of a block after some of its items, by the names that each of these has brought.
use Rattle.std.specs.List.{AllZip}
use Rattle.std.specs.Prelude.{◌≡◌, ◌<◌, ◌≤◌, ℕ, List, length, take}
use Rattle.m2_base.specs.Lists.{Each}
use Rattle.m2_base.specs.Statics.Bringing.{BringsIts}
use Rattle.m2_base.specs.Statics.Contexts.{Layout}
use Rattle.m2_base.specs.Statics.Items.{items_of}
use Rattle.m2_base.specs.Statics.Layouts.{extended_by, laid_shapes, layout_of}
use Rattle.m2_base.specs.Trees.{Stream}
use Rattle.m2_base.specs.declared.limits.TheConstants.{MOST_BROUGHT}
use Rattle.m2_base.specs.declared.sites.Named.{Named}
use Rattle.decl_sem.specs.LaidRows.{HasFirsts}

-- the number of rows of the items so far, with those of the names that each of them has brought
abbrev pub rows_before : Stream → (brought : List (List Named)) → ℕ
rows_before stream brought = length (laid_shapes (take (length brought) (items_of stream)) brought)

-- The layout of a block, as many items of which are declared as there are lists of names that they have brought. It
-- has the first of each name among all rows; only names of modules have brought any, and what is brought stands before
-- the rows of the next item.
pub record IsLayoutAt (l : Layout) (stream : Stream) (brought : List (List Named)) : Type 0 where
  pub layout : l ≡ extended_by (layout_of stream) brought
  pub only : AllZip BringsIts (take (length brought) (items_of stream)) brought
  pub firsts : HasFirsts l (laid_shapes (items_of stream) brought)
  pub earlier : Each (λ b. b.item < length brought) l.brought
  pub behind : Each (λ b. b.ordinal < rows_before stream brought) l.brought
  pub few : length l.brought ≤ MOST_BROUGHT
