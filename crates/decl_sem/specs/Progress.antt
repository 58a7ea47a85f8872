-- The layout of a block, item after item.
use Rattle.std.specs.Prelude.{List, [], length, ℕ, ◌+◌, ◌∷◌, ◌++◌}
use Rattle.m2_base.specs.declared.sites.Named.{Named}
use Rattle.m2_base.specs.Statics.Items.{Item}
use Rattle.m2_base.specs.Statics.Layouts.{names_of_item}
use Rattle.m2_base.specs.Statics.Shapes.{Shape, item_shapes}

-- the names of the items so far, the first ordinal of each, and the number of their rows
pub record Progress : Type 0 where
  pub names : List Named
  pub firsts : List ℕ
  pub rows : ℕ

-- of no item
abbrev pub at_start : Progress
at_start = record { names = []; firsts = []; rows = 0 }

-- with one more item, whose rows have these shapes
abbrev pub with_item : Progress → List Shape → Progress
with_item p shapes =
    record {
      names = p.names ++ names_of_item (length p.firsts) p.rows shapes;
      firsts = p.firsts ++ p.rows ∷ [];
      rows = p.rows + length shapes;
    }

-- with more items
abbrev pub with_items : Progress → List Item → Progress
with_items p [] = p
with_items p (x ∷ items) = with_items (with_item p (item_shapes x)) items
