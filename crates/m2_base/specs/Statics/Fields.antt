-- The fields of a record.
use Rattle.std.specs.List.{list_any}
use Rattle.std.specs.Prelude.{List, None, Option, Some, [], is_none, not, ℕ, ◌+◌, if◌then◌else◌, ◌∷◌, ◌&&◌}
use Rattle.m2_base.specs.Gives.{Gives, and_then, gives}
use Rattle.m2_base.specs.Rows.{Field, Place, row_of}
use Rattle.m2_base.specs.Standard.{broken}
use Rattle.m2_base.specs.Statics.Cells.{capped}
use Rattle.m2_base.specs.Statics.Contexts.{Context, diag, refuse}
use Rattle.m2_base.specs.Statics.Diagnostics.{declared_twice, wrong_operands}
use Rattle.m2_base.specs.Statics.Makes.{Makes, make_then, makes, own_rows, one_row}
use Rattle.m2_base.specs.Statics.TypeNames.{type_of_qual}
use Rattle.m2_base.specs.Statics.TypeParts.{is_field}
use Rattle.m2_base.specs.Statics.Types.{is_broken, range_of, size_of}
use Rattle.m2_base.specs.Trees.{Ident, Qual}
use Rattle.m2_base.specs.declared.notes.Diag.{Diag}

-- a field with these diagnostics
abbrev pub field_with : Context → (own : ℕ) → Ident → Place → (offset : ℕ) → List Diag → Makes Place
field_with c own i t offset ds = one_row c (row_of 0 i.at (Field t offset own i.name)) ds

-- a field; the second of a name in a record is refused
abbrev pub field_row : Context → (own : ℕ) → Ident → Place → (offset : ℕ) → Makes Place
field_row c own i t offset =
    field_with c own i t offset
    (if list_any (is_field own i.name) (own_rows c) then diag c i.at declared_twice ∷ [] else [])

-- fields of one type from this offset on; the value is the offset after them
abbrev pub plain_rows : Context → (own : ℕ) → Place → (offset : ℕ) → List Ident → Makes ℕ
plain_rows c own t offset [] = makes offset
plain_rows c own t offset (i ∷ names) =
    make_then c (field_row c own i t offset) (λ d p. plain_rows d own t (capped (offset + size_of d.scene t)) names)

-- a tag's type is ordinal
abbrev pub checked_tag : Context → (at : ℕ) → Place → Gives Place
checked_tag c at t =
    if not (is_broken c.scene t) && is_none (range_of c.scene t) then refuse c at wrong_operands broken else gives t

-- the type of a variant's tag is ordinal
abbrev pub tag_type : Context → Qual → Gives Place
tag_type c q = and_then (type_of_qual c q) (checked_tag c q.first.at)

-- a tag with a name takes a cell
abbrev pub tag_rows : Context → (own offset : ℕ) → Place → Option Ident → Makes ℕ
tag_rows c own offset t None = makes offset
tag_rows c own offset t (Some i) = make_then c (field_row c own i t offset) (λ d p. makes (capped (offset + 1)))
