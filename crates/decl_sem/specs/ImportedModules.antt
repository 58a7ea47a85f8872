-- The modules that an item imports.
use Rattle.std.specs.Prelude.{ℕ, ◌+◌, ◌<◌, ◌==◌, Bool, if◌then◌else◌, List, [], ◌∷◌, slice_index_or, Option, Some}
use Rattle.std.specs.Prelude.{None}
use Rattle.m2_base.specs.Statics.Contexts.{Context, Source, scope_of_module}
use Rattle.m2_base.specs.Statics.ImportRows.{alias_row, place_or_broken}
use Rattle.m2_base.specs.Statics.ImportedConstants.{brought_by, members_of}
use Rattle.m2_base.specs.Statics.Items as items
use Rattle.m2_base.specs.Statics.Items.{import_item}
use Rattle.m2_base.specs.Statics.Makes.{Makes, make_then, only_gives}
use Rattle.m2_base.specs.Statics.Lookup.{Entry}
use Rattle.m2_base.specs.Statics.Uses.{use_of}
use Rattle.m2_base.specs.Units.{UnitTexts}
use Rattle.m2_base.specs.declared.trees.Ident.{Ident}
use Rattle.m2_base.specs.Finished.{no_text}
use Rattle.m2_base.specs.declared.sites.Named.{Named}

-- a module that an import names has a scope before this one
abbrev pub IsFromBefore : Source → (scope : ℕ) → items.Item → Type 0
IsFromBefore source scope (import_item None i) = scope_of_module source i.name < scope
IsFromBefore source scope (import_item (Some m) i) = scope_of_module source m.name < scope
IsFromBefore source scope other = Unit {0}

-- the number of the first that passes, counted from this one; 0 where none does
abbrev pub first_from : {A : Type 0} → (A → Bool) → (o : ℕ) → List A → ℕ
first_from p o [] = 0
first_from p o (x ∷ xs) = if p x then o else first_from p (o + 1) xs

-- the text with this number has the name
abbrev pub is_text_named : UnitTexts → (name k : ℕ) → Bool
is_text_named u name k = (slice_index_or u.list k no_text).name == name

-- an alias of an entry, and what it brings
abbrev pub entry_rows : Ident → Option Entry → Context → Makes (List Named)
entry_rows i e c = make_then c (alias_row c i (place_or_broken e)) (λ d p. brought_by d i.at (members_of d.scene e))

-- of what a name stands for in this scope
abbrev pub alias_rows : Context → (scope : ℕ) → Ident → Makes (List Named)
alias_rows c scope i = make_then c (only_gives (use_of c (Some scope) i.name i.at)) (λ d e. entry_rows i e d)
