-- Variables of one type, whose size is given.
use Rattle.std.specs.Prelude.{ℕ, ◌+◌, ◌≤◌, List, [], ◌∷◌}
use Rattle.m2_base.specs.States.{Frame}
use Rattle.m2_base.specs.Statics.Cells.{capped, most_cells}
use Rattle.m2_base.specs.Statics.Contexts.{Context}
use Rattle.m2_base.specs.Statics.Makes.{Makes, make_then, makes, makes_named}
use Rattle.m2_base.specs.declared.rows.Mode.TheVariants.{Plain}
use Rattle.m2_base.specs.declared.rows.Place.{Place}
use Rattle.m2_base.specs.declared.rows.RowMeaning.TheVariants.{Var}
use Rattle.m2_base.specs.declared.trees.Ident.{Ident}

-- a next free cell
abbrev pub IsCell : Frame → (next : ℕ) → ℕ → Type 0
IsCell f next cell = cell ≤ most_cells + 1

-- variables of a type of this size, from this cell on; the value is the next free cell
abbrev pub sized_rows : Context → Place → (size cell : ℕ) → List Ident → Makes ℕ
sized_rows c t size cell [] = makes cell
sized_rows c t size cell (i ∷ names) =
    make_then c (makes_named c i.name i.at (Var t Plain cell))
    (λ d p. sized_rows d t size (capped (cell + size)) names)
