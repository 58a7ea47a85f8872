-- The rows of an import.
use Rattle.std.specs.Prelude.{None, Option, Some, List, [], ◌∷◌, if◌then◌else◌}
use Rattle.m2_base.specs.Rows.{Alias, Module, Place, is_same_place, row_of}
use Rattle.m2_base.specs.Standard.{broken}
use Rattle.m2_base.specs.Statics.Contexts.{Context, Named, diag, scope_of_module}
use Rattle.m2_base.specs.Statics.Diagnostics.{declared_twice}
use Rattle.m2_base.specs.Statics.ImportedConstants.{brought_by, leads_elsewhere, members_of}
use Rattle.m2_base.specs.Statics.Lookup.{Entry, entry_in, entry_named}
use Rattle.m2_base.specs.Statics.Makes.{Makes, make_then, makes, makes_named, one_row, only_gives}
use Rattle.m2_base.specs.Statics.Uses.{use_of}
use Rattle.m2_base.specs.Trees.{Ident}
use Rattle.m2_base.specs.declared.notes.Diag.{Diag}

-- where an entry is; without one it is in error
abbrev pub place_or_broken : Option Entry → Place
place_or_broken None = broken
place_or_broken (Some e) = e.0

-- A name that was brought before is declared twice only where it leads elsewhere. Where it leads to a part in error,
-- nothing more is said of it.
abbrev pub again_diags : Context → Ident → Place → List Diag
again_diags c i p =
    if is_same_place p broken then [] else
    if leads_elsewhere c.scene p (entry_in c.scene.tables c.scene.block.scope i.name) then
    diag c i.at declared_twice ∷ [] else []

-- the row of an import's own name, by what earlier imports have brought under it
abbrev pub alias_by : Context → Ident → Place → (brought : Option Named) → Makes Place
alias_by c i p None = makes_named c i.name i.at (Alias p)
alias_by c i p (Some n) = one_row c (row_of 0 i.at (Alias p)) (again_diags c i p)

-- an alias of what an import's own name stands for; it has no name where an earlier import brought that
abbrev pub alias_row : Context → Ident → Place → Makes Place
alias_row c i p = alias_by c i p (entry_named c.layout.brought i.name)

-- A module; or a name of a module, an Alias of what it stands for there, and then what it brings.
abbrev pub import_rows : Context → (from : Option Ident) → Ident → Makes (List Named)
import_rows c None i =
    make_then c (makes_named c i.name i.at (Module (scope_of_module c.source i.name))) (λ d p. makes [])
import_rows c (Some m) i =
    make_then c (only_gives (use_of c (Some (scope_of_module c.source m.name)) i.name i.at)) (λ d e.
    make_then d (alias_row d i (place_or_broken e)) (λ f p.
    brought_by f i.at (members_of f.scene e)))
