-- The constants that an imported enumeration type brings.
use Rattle.std.specs.Prelude.{ℕ, ◌+◌, ◌==◌, nat_lt, Bool, true, false, not, ◌&&◌, ◌||◌, if◌then◌else◌, List, [], ◌∷◌}
use Rattle.std.specs.Prelude.{length, map, take, drop, Option, Some, None, unwrap_or}
use Rattle.std.specs.List.{list_any}
use Rattle.m2_base.specs.Rows.{Alias, Const, Enum, Place, Row, RowMeaning, TypeName, alias_kind, at_place}
use Rattle.m2_base.specs.Rows.{is_same_place, row_meaning, row_of}
use Rattle.m2_base.specs.Standard.{is_standard}
use Rattle.m2_base.specs.Statics.Contexts.{Context, Named, Scene, diag}
use Rattle.m2_base.specs.Statics.Diagnostics.{declared_twice, too_many_constants}
use Rattle.m2_base.specs.Statics.Lookup.{Entry, entry_in, has_name}
use Rattle.m2_base.specs.Statics.Makes.{Makes, own_rows}
use Rattle.m2_base.specs.Statics.Types.{meaning_at}
use Rattle.m2_base.specs.Statics.Uses.{followed}
use Rattle.m2_base.specs.Tables.{rows_at}
use Rattle.m2_base.specs.declared.notes.Diag.{Diag}
use Rattle.m2_base.specs.declared.limits.TheConstants.{MOST_BROUGHT}

-- ** The constants of a type

-- a constant of an enumeration: its name, and the place of its row
pub record Member : Type 0 where
  pub name : ℕ
  pub place : Place

-- the row of a constant
abbrev pub is_constant : RowMeaning → Bool
is_constant (Const t v l) = true
is_constant other = false

-- the constants that have names among these rows of a scope, the first of which has this ordinal
abbrev pub constants_from : (scope ordinal : ℕ) → List Row → List Member
constants_from s o [] = []
constants_from s o (r ∷ rows) =
    if is_constant (row_meaning r) && not (r.name == 0) then
    record { name = r.name; place = at_place s o } ∷ constants_from s (o + 1) rows
    else constants_from s (o + 1) rows

-- an enumeration's row is followed by those of its constants
abbrev pub members_by : List (List Row) → Place → RowMeaning → List Member
members_by tables t (Enum n) =
    constants_from t.scope (t.ordinal + 1) (take n (drop (t.ordinal + 1) (rows_at tables t.scope)))
members_by tables t other = []

-- the standard scope's enumeration brings nothing: its constants are seen everywhere
abbrev pub members_of_type : Scene → Place → List Member
members_of_type scene t = if t.scope == 0 then [] else members_by scene.tables t (meaning_at scene t)

-- the name of a type leads to the type's constants
abbrev pub members_of_row : Scene → RowMeaning → List Member
members_of_row scene (TypeName t) = members_of_type scene t
members_of_row scene other = []

-- the constants of what an import leads to
abbrev pub members_of : Scene → Option Entry → List Member
members_of scene None = []
members_of scene (Some e) = members_of_row scene (row_meaning e.1)

-- ** Those that are new in the block

-- the name is a standard one, or the block has it, or it is one of these
abbrev pub is_given : Context → List ℕ → (name : ℕ) → Bool
is_given c names name =
    is_standard name || (has_name c.scene.tables c.scene.block.scope name || list_any (λ n. n == name) names)

-- the constants whose names the block hasn't yet, and that aren't among these names
abbrev pub new_members : Context → List ℕ → List Member → List Member
new_members c names [] = []
new_members c names (m ∷ members) =
    if is_given c names m.name then new_members c names members
    else m ∷ new_members c (m.name ∷ names) members

-- with these the block's imports would bring too many
abbrev pub are_too_many : Context → List Member → Bool
are_too_many c members = nat_lt MOST_BROUGHT (length c.layout.brought + length members)

-- what the block has under a name, aliases followed, is another row
abbrev pub leads_elsewhere : Scene → Place → Option Entry → Bool
leads_elsewhere scene p None = false
leads_elsewhere scene p (Some e) = not (is_same_place (followed scene e).0 p)

-- the block has another row under the name of this constant
abbrev pub is_hidden : Context → Member → Bool
is_hidden c m = leads_elsewhere c.scene m.place (entry_in c.scene.tables c.scene.block.scope m.name)

-- ** What is brought

-- the names of these constants in the block, the first of which has this ordinal
abbrev pub brought_names : (item ordinal at : ℕ) → List Member → List Named
brought_names i o at [] = []
brought_names i o at (m ∷ members) =
    record { name = m.name; ordinal = o; kind = alias_kind; at = at; item = i } ∷ brought_names i (o + 1) at members

-- the row of a constant in the block
abbrev pub brought_row : (at : ℕ) → Member → Row
brought_row at m = row_of m.name at (Alias m.place)

-- a name that is hidden by another one is declared twice
abbrev pub hidden_diags : Context → (at : ℕ) → List Member → List Diag
hidden_diags c at members = if list_any (is_hidden c) members then diag c at declared_twice ∷ [] else []

-- these are new of these constants
abbrev pub brings : Context → (at : ℕ) → (members new : List Member) → Makes (List Named)
brings c at members new =
    if are_too_many c new then
    record { value = []; rows = []; diags = diag c at too_many_constants ∷ []; answers = [] }
    else record {
      value = brought_names (unwrap_or c.item 0) (length (own_rows c)) at new;
      rows = map (brought_row at) new;
      diags = hidden_diags c at members;
      answers = [];
    }

-- What an import brings whose identifier is this token, where it leads to a type with these constants: an alias of
-- each whose name the block hasn't yet; none, and a diagnostic, where they would be too many.
abbrev pub brought_by : Context → (at : ℕ) → List Member → Makes (List Named)
brought_by c at members = brings c at members (new_members c [] members)
