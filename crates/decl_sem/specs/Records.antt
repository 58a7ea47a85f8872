-- The rows of a record's fields, and the values that its variants stand for.
use Rattle.std.specs.Prelude.{◌≡◌, ℕ, ◌+◌, ◌<◌, ◌≤◌, List, [], ◌++◌, Option, length, max}
use Rattle.m2_base.specs.Gives.{Gives}
use Rattle.m2_base.specs.States.{Frame}
use Rattle.m2_base.specs.Statics.CaseLabels.{CaseLabels}
use Rattle.m2_base.specs.Statics.Cells.{fitting, most_cells}
use Rattle.m2_base.specs.Statics.Contexts.{Context}
use Rattle.m2_base.specs.Statics.Fields.{tag_rows, tag_type}
use Rattle.m2_base.specs.Statics.Makes.{Makes, make_then, makes, makes_row, only_gives}
use Rattle.m2_base.specs.Statics.Ranges.{Range}
use Rattle.m2_base.specs.Statics.Shapes.{Shape, arms_shapes, fields_shapes}
use Rattle.m2_base.specs.Statics.TypeRows.{arms_rows, fields_rows}
use Rattle.m2_base.specs.Trees.{FieldLists, VariantArms}
use Rattle.m2_base.specs.declared.rows.Place.{Place}
use Rattle.m2_base.specs.declared.rows.RowMeaning.TheVariants.{Record}
use Rattle.m2_base.specs.declared.sites.Site.{Site}
use Rattle.m2_base.specs.declared.trees.Ident.{Ident}
use Rattle.m2_base.specs.declared.trees.Qual.{Qual}
use Rattle.type_rules.specs.Scenes.{IsThere}
use Rattle.decl_sem.specs.Making.{next_ordinal}
use Rattle.decl_sem.specs.Pieces.{IsBehind, item_end}
use Rattle.decl_sem.specs.declared.making.Made.{Made}
use Rattle.decl_sem.specs.declared.records.Variants.{Variants}

-- The row of a record is still ahead, behind rows of these shapes that are the next, and is one of the item's.
pub record IsOwner (s : Site) (made : Made) (shapes : List Shape) (own : ℕ) : Type 0 where
  pub behind : next_ordinal made + length shapes ≤ own
  pub within : own < item_end s

-- an offset in a record, or the one behind its fields
abbrev pub IsOffset : Frame → (next : ℕ) → ℕ → Type 0
IsOffset f next offset = offset ≤ most_cells + 1

-- the values that are covered with labels
abbrev pub covered_of : Gives CaseLabels → Gives (List Range)
covered_of g = record { value = g.value.covered; diags = g.diags; answers = g.answers }

-- the type of a tag: it is entered, or of a scope before
abbrev pub IsTagType : Frame → (next : ℕ) → Place → Type 0
IsTagType f next t = IsThere f t × IsBehind f next t

-- ** Variant parts

-- Where the variants behind a tag stand: the type of the tag can be asked for, and each begins at an offset.
pub record AreVariants (f : Frame) (next : ℕ) (v : Variants) : Type 0 where
  pub tag : IsTagType f next v.tag
  pub offset : v.offset ≤ most_cells + 1

-- and they are variants of the record whose row has this ordinal
pub record AreVariantsOf (own : ℕ) (f : Frame) (next : ℕ) (v : Variants) : Type 0 where
  pub of_record : v.own ≡ own
  pub variants : AreVariants f next v

-- the tag's type is looked at, and the tag takes a cell, if it has a name
abbrev pub tag_made : Context → (own offset : ℕ) → Option Ident → Qual → Makes Variants
tag_made c own offset tag of =
    make_then c (only_gives (tag_type c of)) (λ d t.
    make_then d (tag_rows d own offset t tag) (λ e o.
    makes (record { own = own; offset = o; tag = t })))

-- the shapes of what stands behind a tag
abbrev pub behind_tag_shapes : VariantArms → FieldLists → List Shape
behind_tag_shapes arms other = arms_shapes arms ++ fields_shapes other

-- what stands behind a tag: the variants, and the fields after ELSE; the greatest offset counts
abbrev pub behind_tag_rows : Context → Variants → VariantArms → FieldLists → Makes ℕ
behind_tag_rows c v arms other =
    make_then c (arms_rows c v.own v.offset v.tag [] v.offset arms) (λ d end.
    make_then d (fields_rows d v.own v.offset other) (λ e last.
    makes (max end last)))

-- the row of a record whose fields end at this offset; one of too many cells is refused, and each has at least one
abbrev pub record_row : Context → (at first end : ℕ) → Makes Place
record_row c at first end =
    make_then c (makes_row c at (Record first (max 1 end))) (λ d t.
    only_gives (fitting d at (max 1 end) t))
