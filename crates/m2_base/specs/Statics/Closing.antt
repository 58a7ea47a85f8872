-- What is checked when a block's scope is complete: its closing name, and in an implementation module that it has all
-- that its definition promises.
use Rattle.std.specs.Prelude.{Bool, List, None, Option, Some, [], false, is_some, true, ℕ, ◌+◌, if◌then◌else◌, ◌∷◌}
use Rattle.std.specs.Prelude.{◌++◌, ◌==◌, ◌||◌}
use Rattle.m2_base.specs.Rows.{Opaque, Place, Pointer, Proc, Row, RowMeaning, Set, TypeName, at_place, is_same_place}
use Rattle.m2_base.specs.Rows.{row_meaning}
use Rattle.m2_base.specs.Statics.Contexts.{Context, Scene, diag}
use Rattle.m2_base.specs.Statics.Diagnostics.{closing_name_differs, heading_differs, not_implemented}
use Rattle.m2_base.specs.Statics.Lookup.{Entry, entry_in}
use Rattle.m2_base.specs.Statics.SameForm.{is_same_form}
use Rattle.m2_base.specs.Statics.Types.{is_broken, meaning_at, range_of}
use Rattle.m2_base.specs.Tables.{rows_at}
use Rattle.m2_base.specs.Trees.{Heading, Ident, Stream}
use Rattle.m2_base.specs.declared.notes.Diag.{Diag}

-- the name in a heading, or where there is none the module's
abbrev pub heading_name : (name : Option Ident) → Option Heading → Option Ident
heading_name name None = name
heading_name name (Some h) = Some h.name

-- the name of a block: its procedure's, or its module's
abbrev pub block_name : Stream → Option Ident
block_name s = heading_name s.name s.heading

-- a block is closed by its own name
abbrev pub name_diags : Context → Ident → Option Ident → List Diag
name_diags c close None = []
name_diags c close (Some i) = if i.name == close.name then [] else diag c close.at closing_name_differs ∷ []

-- a type by its row's meaning is scalar, a set or a pointer, and no opaque one; a type in error counts as right
abbrev pub implements_opaque : Scene → Place → RowMeaning → Bool
implements_opaque scene t Opaque = false
implements_opaque scene t (Set base) = true
implements_opaque scene t (Pointer target) = true
implements_opaque scene t other = is_broken scene t || is_some (range_of scene t)

-- a row of a type's name implements an opaque type by its type, no other row does
abbrev pub type_implements : Scene → RowMeaning → Bool
type_implements scene (TypeName t) = implements_opaque scene t (meaning_at scene t)
type_implements scene other = false

-- the row of an entry implements an opaque type
abbrev pub implements_type : Scene → Option Entry → Bool
implements_type scene None = false
implements_type scene (Some e) = type_implements scene (row_meaning e.1)

-- a procedure of the same form, or the diagnostic that the heading differs
pub data Implemented : Type 0 where
  is_implemented : Implemented
  is_missing : Implemented
  differs_at : (at : ℕ) → Implemented

-- a procedure of the same form implements a heading, no other row does
abbrev pub procedure_implements : Scene → (heading : Place) → (at : ℕ) → RowMeaning → Implemented
procedure_implements scene t at (Proc u number s) = if is_same_form scene t u then is_implemented else differs_at at
procedure_implements scene t at other = is_missing

-- how the row of an entry implements a heading
abbrev pub implements_heading : Scene → (heading : Place) → Option Entry → Implemented
implements_heading scene t None = is_missing
implements_heading scene t (Some e) = procedure_implements scene t e.1.at (row_meaning e.1)

-- how a row implements an opaque type
abbrev pub type_implemented : Scene → Option Entry → Implemented
type_implemented scene e = if implements_type scene e then is_implemented else is_missing

-- an opaque type's name stands in the row after it
abbrev pub is_opaque_before : Scene → (own ordinal : ℕ) → Place → RowMeaning → Bool
is_opaque_before scene own o t Opaque = is_same_place (at_place own o) (at_place t.scope (t.ordinal + 1))
is_opaque_before scene own o t other = false

-- how the module implements a named row of its definition: an opaque type by a type, a heading by a procedure
abbrev pub implemented : Scene → (own ordinal : ℕ) → (name : ℕ) → RowMeaning → Implemented
implemented scene own o name (TypeName t) =
    if is_opaque_before scene own o t (meaning_at scene t) then
    type_implemented scene (entry_in scene.tables scene.block.home name)
    else is_implemented
implemented scene own o name (Proc t number s) =
    implements_heading scene t (entry_in scene.tables scene.block.home name)
implemented scene own o name other = is_implemented

-- how the module implements the rows from this ordinal on; a nameless row had its diagnostic
abbrev pub all_implemented : Scene → (own ordinal : ℕ) → List Row → List Implemented
all_implemented scene own o [] = []
all_implemented scene own o (r ∷ rows) =
    if r.name == 0 then all_implemented scene own (o + 1) rows
    else implemented scene own o r.name (row_meaning r) ∷ all_implemented scene own (o + 1) rows

-- a diagnostic at each procedure that differs from its heading
abbrev pub differing : Context → List Implemented → List Diag
differing c [] = []
differing c (differs_at at ∷ rest) = diag c at heading_differs ∷ differing c rest
differing c (other ∷ rest) = differing c rest

-- something isn't implemented
abbrev pub has_missing : List Implemented → Bool
has_missing [] = false
has_missing (is_missing ∷ rest) = true
has_missing (other ∷ rest) = has_missing rest

-- each heading that differs is refused at its procedure's name; what is missing, once at the module's name
abbrev pub implementation_diags : Context → Option Ident → List Implemented → List Diag
implementation_diags c None all = []
implementation_diags c (Some i) all =
    if has_missing all then differing c all ++ diag c i.at not_implemented ∷ [] else differing c all

-- only the module itself is checked against its definition
abbrev pub own_diags : Context → Stream → Option ℕ → List Diag
own_diags c s None = []
own_diags c s (Some own) =
    if c.scene.block.level == 0 then
    implementation_diags c s.name (all_implemented c.scene own 0 (rows_at c.scene.tables own))
    else []

-- the diagnostics of a complete block
abbrev pub closing_diags : Context → Stream → List Diag
closing_diags c s = name_diags c s.close (block_name s) ++ own_diags c s c.scene.block.own
