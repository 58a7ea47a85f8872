-- What a pointer type points to, where that is a name alone: it may be declared later.
use Rattle.std.specs.Prelude.{None, Option, Some, is_none, not, ℕ, if◌then◌else◌, ◌==◌, ◌&&◌}
use Rattle.m2_base.specs.Gives.{Gives, gives}
use Rattle.m2_base.specs.Rows.{Broken, Place, RowMeaning, TypeName, alias_kind, at_place, row_meaning, type_name_kind}
use Rattle.m2_base.specs.Standard.{broken, is_standard}
use Rattle.m2_base.specs.Statics.Contexts.{Context, Named, refuse}
use Rattle.m2_base.specs.Statics.Diagnostics.{not_a_type}
use Rattle.m2_base.specs.Statics.Lookup.{Entry, entry_at, first_entry}
use Rattle.m2_base.specs.Statics.Makes.{Makes, only_gives}
use Rattle.m2_base.specs.Statics.Uses.{followed}
use Rattle.m2_base.specs.Trees.{Ident, TypeExpr, named_type, type_expr}

-- the name alone after POINTER TO, where the block's layout has it and it is no standard name
abbrev pub target_name : Context → TypeExpr → Option Ident
target_name c (type_expr at (named_type q)) =
    if is_none q.second && not (is_standard q.first.name) then Some q.first else None
target_name c other = None

-- an imported name's target by its row's place and meaning: a type's name, as such
abbrev pub imported_target : Context → (at : ℕ) → Place → RowMeaning → Gives Place
imported_target c at p (TypeName t) = gives p
imported_target c at p Broken = gives broken
imported_target c at p other = refuse c at not_a_type broken

-- the target of an entry
abbrev pub entry_target : Context → (at : ℕ) → Entry → Gives Place
entry_target c at e = imported_target c at e.0 (row_meaning e.1)

-- the place that the layout gives, which may be of a later item
abbrev pub layout_target : Context → (at : ℕ) → Named → Gives Place
layout_target c at n =
    let p = at_place c.scene.block.scope n.ordinal in
    if n.kind == type_name_kind then gives p else
    if n.kind == alias_kind then entry_target c at (followed c.scene (entry_at c.scene p)) else
    refuse c at not_a_type broken

-- the target, where the layout has the name
abbrev pub target_by_layout : Context → Ident → Option Named → Option (Gives Place)
target_by_layout c i None = None
target_by_layout c i (Some n) = Some (layout_target c i.at n)

-- the target, where it is a name alone that the layout has
abbrev pub target_by_name : Context → Option Ident → Option (Gives Place)
target_by_name c None = None
target_by_name c (Some i) = target_by_layout c i (first_entry c.layout i.name)

-- the target by the layout, or else what the type expression makes
abbrev pub target_or : Option (Gives Place) → Makes Place → Makes Place
target_or None m = m
target_or (Some g) m = only_gives g
