-- Which procedure the code names where a procedure is called or is a value. The module's own procedures and its cells
-- are those of its text and of its own definition; an import is known by its number.
use Rattle.std.specs.Prelude.{ℕ, ◌-◌, ◌==◌, ◌&&◌, ◌||◌, not, Bool, false, nat_lt, if◌then◌else◌, [], ◌∷◌, Option, Some}
use Rattle.std.specs.Prelude.{None}
use Rattle.m2_base.specs.Rows.{row_meaning}
use Rattle.m2_base.specs.declared.rows.Place.{Place}
use Rattle.m2_base.specs.declared.rows.RowMeaning.{RowMeaning}
use Rattle.m2_base.specs.declared.rows.RowMeaning.TheVariants.{Proc}
use Rattle.m2_base.specs.Statics.Contexts.{Scene, Block, level_of}
use Rattle.m2_base.specs.Statics.Lookup.{Entry, entry_in}
use Rattle.code_form.specs.declared.instr.Instr.TheVariants.{Proc as ProcedureValue}
use Rattle.block_code.specs.Parts.{Part, plain}

-- the number of a definition module among the imports, where the scope of the own definition isn't counted
abbrev pub import_number_beside : (own : Option ℕ) → (scope : ℕ) → ℕ
import_number_beside None s = s
import_number_beside (Some own) s = if nat_lt own s then s - 1 else s

-- the number of a definition module among the imports, from 1: all of them in the order of their scopes, without the
-- own definition
abbrev pub import_number : Block → (scope : ℕ) → ℕ
import_number b s = import_number_beside b.own s

-- the scope is that of the own definition
abbrev pub is_own_definition : (own : Option ℕ) → (scope : ℕ) → Bool
is_own_definition None s = false
is_own_definition (Some own) s = s == own

-- the scope is the module's, or that of its own definition
abbrev pub is_own : Block → (scope : ℕ) → Bool
is_own b s = (s == b.home) || is_own_definition b.own s

-- A procedure as code names it: its type, and its number in its module.
pub record Target : Type 0 where
  pub typ : Place
  pub number : ℕ

-- a procedure of this type and number
abbrev pub target : Place → (number : ℕ) → Target
target t k = record { typ = t; number = k }

-- the procedure that a row declares
abbrev pub target_by : RowMeaning → Option Target
target_by (Proc t k s) = Some (target t k)
target_by other = None

-- the procedure that a name is declared as
abbrev pub target_of_entry : Option Entry → Option Target
target_of_entry None = None
target_of_entry (Some e) = target_by (row_meaning e.1)

-- A procedure by its name, its type and its number. A heading of the own definition is the module's own procedure of
-- that name, if there is one; any other procedure is itself.
abbrev pub target_of_procedure : Scene → (name : ℕ) → (typ : Place) → (number : ℕ) → Option Target
target_of_procedure scene name t k =
    if is_own_definition scene.block.own t.scope then target_of_entry (entry_in scene.tables scene.block.home name)
    else Some (target t k)

-- a procedure is of an imported definition
abbrev pub is_foreign : Block → Target → Bool
is_foreign b p = (level_of b p.typ.scope == 0) && not (is_own b p.typ.scope)

-- the number of the import that a procedure is of, 0 for the module itself
abbrev pub import_of_target : Block → Target → ℕ
import_of_target b p = if is_foreign b p then import_number b p.typ.scope else 0

-- A procedure as a value. Where the module lacks the procedure, its definition isn't implemented, which is refused.
abbrev pub procedure_code : Scene → Option Target → Part
procedure_code scene None = plain (ProcedureValue 0 0 ∷ [])
procedure_code scene (Some p) = plain (ProcedureValue (import_of_target scene.block p) p.number ∷ [])
