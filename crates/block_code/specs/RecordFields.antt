-- Names where a designator begins, and names behind a point. The fields of the records of the open WITHs, the
-- innermost first, come before the names of scopes. Behind a module the name is looked up in that module, behind a
-- record it is a field; a field is as many cells behind its record as its row says.
use Rattle.std.specs.Prelude.{ℕ, zero, suc, List, [], ◌∷◌, if◌then◌else◌, Option, Some, None}
use Rattle.m2_base.specs.Gives.{Gives, gives, and_then}
use Rattle.m2_base.specs.Rows.{row_meaning}
use Rattle.m2_base.specs.declared.rows.Place.{Place}
use Rattle.m2_base.specs.declared.rows.Row.{Row}
use Rattle.m2_base.specs.declared.rows.RowMeaning.{RowMeaning}
use Rattle.m2_base.specs.declared.rows.RowMeaning.TheVariants.{Field, Record}
use Rattle.m2_base.specs.Statics.Contexts.{Context, Scene, refuse}
use Rattle.m2_base.specs.Statics.Diagnostics.{no_such_field, not_a_record, not_a_variable}
use Rattle.m2_base.specs.Statics.TypeParts.{field_of}
use Rattle.m2_base.specs.Statics.Types.{is_broken, kind_of}
use Rattle.m2_base.specs.Statics.Uses.{use_of}
use Rattle.m2_base.specs.declared.trees.Ident.{Ident}
use Rattle.m2_base.specs.declared.operands.Operand.TheVariants.{InError, ModuleName, NotConstant, Variable}
use Rattle.m2_base.specs.declared.operands.Operand.{Operand}
use Rattle.code_form.specs.declared.instr.Instr.TheVariants.{Offset}
use Rattle.block_code.specs.Coded.{Coded, coded, in_error}
use Rattle.block_code.specs.Parts.{Part, plain, none, ◌⨟◌, with_record}
use Rattle.block_code.specs.Variables.{entry_coded}

-- ---- fields

-- an offset of 0 is left out
abbrev pub offset_code : ℕ → Part
offset_code zero = none
offset_code (suc n) = plain (Offset (suc n) ∷ [])

-- the field of this meaning, in the record whose address this code gives
abbrev pub field_by : Scene → Part → RowMeaning → Coded
field_by scene code (Field t o r n) = if is_broken scene t then in_error else coded (Variable t) (code ⨟ offset_code o)
field_by scene code other = in_error

-- the field of this row, in the record whose address this code gives
abbrev pub field_coded : Scene → Part → Row → Coded
field_coded scene code f = field_by scene code (row_meaning f)

-- ---- a name where a designator begins

-- the field that a WITH of this number has, or else what the outer ones have
abbrev pub field_or : Scene → (k : ℕ) → Option Row → Option Coded → Option Coded
field_or scene k None outer = outer
field_or scene k (Some f) outer = Some (field_coded scene (with_record k) f)

-- The field of this name in the first of these WITHs whose record has one. They are given by the types of their
-- records, the innermost first, and their numbers begin at k.
abbrev pub with_field : Scene → (k : ℕ) → (withs : List Place) → (name : ℕ) → Option Coded
with_field scene k [] name = None
with_field scene k (t ∷ ts) name = field_or scene k (field_of scene t name) (with_field scene (suc k) ts name)

-- the field that was found, or else what the name is bound to
abbrev pub field_or_use : Context → Ident → Option Coded → Gives Coded
field_or_use c i None = and_then (use_of c None i.name i.at) (λ e. gives (entry_coded c e))
field_or_use c i (Some x) = gives x

-- a name where a designator begins
abbrev pub name_coded : Context → (withs : List Place) → Ident → Gives Coded
name_coded c withs i = field_or_use c i (with_field c.scene 0 withs i.name)

-- ---- a name behind a point

-- what is no variable takes no selector; it is refused at the designator's first token
abbrev pub no_selector : Context → (first : ℕ) → Gives Coded
no_selector c first = refuse c first not_a_variable in_error

-- the field that was found in the record whose address this code gives
abbrev pub found_field : Context → Part → Ident → Option Row → Gives Coded
found_field c code i None = refuse c i.at no_such_field in_error
found_field c code i (Some f) = gives (field_coded c.scene code f)

-- the field of a variable of this type and its meaning
abbrev pub of_record : Context → (at : ℕ) → Part → Ident → Place → RowMeaning → Gives Coded
of_record c at code i t (Record f s) = found_field c code i (field_of c.scene t i.name)
of_record c at code i t other = refuse c at not_a_record in_error

-- by its operand, what a name behind a point selects of something with this code
abbrev pub select_field_by : Context → (first at : ℕ) → Ident → Part → Operand → Gives Coded
select_field_by c first at i code (ModuleName s) =
    and_then (use_of c (Some s) i.name i.at) (λ e. gives (entry_coded c e))
select_field_by c first at i code (Variable t) = of_record c at code i t (kind_of c.scene t)
select_field_by c first at i code InError = gives in_error
select_field_by c first at i code NotConstant = gives in_error
select_field_by c first at i code other = no_selector c first

-- What a name behind a point selects. `first` is the designator's first token, `at` the point.
abbrev pub select_field : Context → (first at : ℕ) → Ident → Coded → Gives Coded
select_field c first at i x = select_field_by c first at i x.code x.operand
