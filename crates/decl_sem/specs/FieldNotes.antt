-- Fields of a record, one after another, as the code makes them.
use Rattle.std.specs.List.{list_any}
use Rattle.std.specs.Prelude.{ℕ, ◌+◌, Bool, List, [], ◌∷◌, if◌then◌else◌}
use Rattle.m2_base.specs.Gives.{Gives, gives}
use Rattle.m2_base.specs.Statics.Cells.{capped}
use Rattle.m2_base.specs.Statics.Contexts.{Context, refuse}
use Rattle.m2_base.specs.Statics.Diagnostics.{declared_twice}
use Rattle.m2_base.specs.Statics.Fields.{field_row}
use Rattle.m2_base.specs.Statics.Makes.{Makes, make_then, makes, own_rows}
use Rattle.m2_base.specs.Statics.TypeParts.{is_field}
use Rattle.m2_base.specs.declared.rows.Place.{Place}
use Rattle.m2_base.specs.declared.trees.Ident.{Ident}

-- a second field of a name is refused
abbrev pub refused_if : Context → (at : ℕ) → (second : Bool) → Gives (Unit {0})
refused_if c at second = if second then refuse c at declared_twice tt else gives tt

-- the second of a name in a record is refused
abbrev pub second_refused : Context → (own : ℕ) → Ident → Gives (Unit {0})
second_refused c own i = refused_if c i.at (list_any (is_field own i.name) (own_rows c))

-- fields of a type of this size, from this offset on; the value is the offset after them
abbrev pub sized_fields : Context → (own : ℕ) → Place → (size offset : ℕ) → List Ident → Makes ℕ
sized_fields c own t size offset [] = makes offset
sized_fields c own t size offset (i ∷ names) =
    make_then c (field_row c own i t offset) (λ d p. sized_fields d own t size (capped (offset + size)) names)
