-- What an object says, as plain data, and its bytes. All numbers are of four bytes, the lowest first.
use Rattle.std.specs.Prelude.{ℕ, List, ◌++◌, length, codes, map, replicate, flat_map}
use Rattle.std.specs.Int.{w32, to_le_bytes}
use Rattle.code_form.specs.Heights.{Callee}
use Rattle.code_form.specs.Modules.{Import, Procedure, World}

-- a procedure that the own definition gives to other modules: its number, the cells of its parameters, its result
abbrev pub Export : Type 0
Export = ℕ × ℕ × ℕ

-- An imported definition, and the key of its text, by which it is known again. In version 1 keys are empty.
pub record KeyedImport : Type 0 where
  pub key : List ℕ
  pub definition : Import

-- The version of the format, the module's name, the key of its definition, its cells, the first of which are those of
-- its definition, its definition's headings, the definitions that it imports, and its procedures.
pub record Contents : Type 0 where
  pub version : ℕ
  pub name : List ℕ
  pub key : List ℕ
  pub cells : ℕ
  pub own_cells : ℕ
  pub exports : List Export
  pub imports : List KeyedImport
  pub procedures : List Procedure

-- the key of a module that has no definition
unfoldable pub no_key : List ℕ
no_key = replicate 32 0

-- what is imported, without the keys
abbrev pub definitions_of : Contents → List Import
definitions_of o = map (λ i. i.definition) o.imports

abbrev pub u32 : ℕ → List ℕ
u32 n = to_le_bytes w32 n

-- a length and so many bytes
abbrev pub with_length : List ℕ → List ℕ
with_length bytes = u32 (length bytes) ++ bytes

-- what each object begins with
abbrev pub magic : List ℕ
magic = codes "M2OB"

unfoldable pub export_bytes : Export → List ℕ
export_bytes e = u32 e.0 ++ u32 e.1 ++ u32 e.2

unfoldable pub heading_bytes : Callee → List ℕ
heading_bytes h = u32 h.params ++ u32 h.result

unfoldable pub import_bytes : KeyedImport → List ℕ
import_bytes i =
    with_length i.definition.name ++ i.key ++ u32 i.definition.cells
    ++ u32 (length i.definition.headings) ++ flat_map heading_bytes i.definition.headings

-- a procedure's fields up to the one that has its greatest height, and from it on
unfoldable pub frame_bytes : Procedure → List ℕ
frame_bytes p = u32 p.outer ++ u32 p.params ++ u32 p.result ++ u32 p.locals

unfoldable pub body_bytes : Procedure → List ℕ
body_bytes p = u32 p.high ++ with_length p.bytes ++ with_length p.code

abbrev pub procedure_bytes : Procedure → List ℕ
procedure_bytes p = frame_bytes p ++ body_bytes p

-- an object's name, cells and key, and what stands before them
unfoldable pub opening_bytes : Contents → List ℕ
opening_bytes o = magic ++ u32 o.version ++ with_length o.name ++ u32 o.cells ++ u32 o.own_cells ++ o.key

-- its exports and imports, and the number of procedures
unfoldable pub lists_bytes : Contents → List ℕ
lists_bytes o =
    u32 (length o.exports) ++ flat_map export_bytes o.exports
    ++ u32 (length o.imports) ++ flat_map import_bytes o.imports
    ++ u32 (length o.procedures)

-- what stands before the procedures
abbrev pub head_bytes : Contents → List ℕ
head_bytes o = opening_bytes o ++ lists_bytes o

-- an object's bytes
abbrev pub object_bytes : Contents → List ℕ
object_bytes o = head_bytes o ++ flat_map procedure_bytes o.procedures

-- what an object's code can name
abbrev pub world_of : Contents → World
world_of o = record { cells = o.cells; imports = definitions_of o; procedures = o.procedures }
