-- What objects are refused for when they are linked: first two of one name, then an import whose object is missing,
-- then an import that was compiled with another definition than the object of its name gives. Each is looked for in
-- all objects and all their imports, in order.
use Rattle.std.specs.Prelude.{◌≡◌, ℕ, ◌==◌, Bool, true, false, ◌&&◌, ◌||◌, not, List, [], ◌∷◌, length, Option, Some}
use Rattle.std.specs.Prelude.{None, if◌then◌else◌, is_none, option_map, slice_get}
use Rattle.std.specs.Str.{bytes_eq}
use Rattle.code_form.specs.Heights.{Callee}
use Rattle.code_form.specs.Modules.{Import}
use Rattle.object_file.specs.Contents.{KeyedImport, Contents}
use Rattle.object_file.specs.Naming.{object_named, name_again}
use Rattle.object_file.specs.Programs.{in_out, given_headings}
use Rattle.object_file.specs.Running.{IsRunningOrder, picked}
use Rattle.m2_link.specs.Keys.{in_out_key}

pub data Refusal : Type 0 where
  twice : List ℕ → Refusal
  missing : List ℕ → Refusal
  key_differs : List ℕ → Refusal

abbrev pub is_in_out : Import → Bool
is_in_out i = bytes_eq i.name in_out.name

-- an import that names a cell or a heading needs its object
abbrev pub needs_object : Import → Bool
needs_object i = not (i.cells == 0 && length i.headings == 0)

-- an import whose object, found at this place if there is one, is missing; InOut is the machine's own
abbrev pub lacks : (place : Option ℕ) → Import → Bool
lacks place i = not (is_in_out i) && needs_object i && is_none place

abbrev pub is_missing : List Contents → Import → Bool
is_missing os i = lacks (object_named os i.name) i

-- what is given to those who import a definition: the version of the object, the key, the cells and the headings
pub record Given : Type 0 where
  pub version : ℕ
  pub key : List ℕ
  pub cells : ℕ
  pub headings : List Callee

abbrev pub given_by : Contents → Given
given_by o = record { version = o.version; key = o.key; cells = o.own_cells; headings = given_headings o.exports }

-- InOut's is that of its fixed text
abbrev pub in_out_given : Given
in_out_given = record { version = 2; key = in_out_key; cells = in_out.cells; headings = in_out.headings }

abbrev pub same_headings : List Callee → List Callee → Bool
same_headings [] [] = true
same_headings (c ∷ cs) (d ∷ ds) = c.params == d.params && c.result == d.result && same_headings cs ds
same_headings cs ds = false

-- An import of an object of this version agrees with what is given. Keys are compared where both have one,
-- in version 2.
abbrev pub agrees : (version : ℕ) → KeyedImport → Given → Bool
agrees version i g =
    i.definition.cells == g.cells && same_headings g.headings i.definition.headings
    && (not (version == 2 && g.version == 2) || bytes_eq i.key g.key)

-- the object at a place, if it is told
abbrev pub object_at : List Contents → Option ℕ → Option Contents
object_at os None = None
object_at os (Some k) = slice_get os k

abbrev pub disagrees : (version : ℕ) → KeyedImport → Option Contents → Bool
disagrees version i None = false
disagrees version i (Some o) = not (agrees version i (given_by o))

-- an import of an object of this version differs from what InOut gives, or the object of its name, if there is one
abbrev pub differs_at : (version : ℕ) → List Contents → KeyedImport → Bool
differs_at version os i = if is_in_out i.definition then not (agrees version i in_out_given)
    else disagrees version i (object_at os (object_named os i.definition.name))

abbrev pub differs : List Contents → Contents → KeyedImport → Bool
differs os o i = differs_at o.version os i

-- the name of the first import that passes a test
abbrev pub first_in : (KeyedImport → Bool) → List KeyedImport → Option (List ℕ)
first_in test [] = None
first_in test (i ∷ is) = if test i then Some i.definition.name else first_in test is

abbrev pub or_else : {A : Type 0} → Option A → Option A → Option A
or_else None next = next
or_else (Some x) next = Some x

-- that of the first of all objects
abbrev pub first_import : (Contents → KeyedImport → Bool) → List Contents → Option (List ℕ)
first_import test [] = None
first_import test (o ∷ os) = or_else (first_in (test o) o.imports) (first_import test os)

abbrev pub first_missing : List Contents → Option (List ℕ)
first_missing os = first_import (λ o i. is_missing os i.definition) os

abbrev pub first_differing : List Contents → Option (List ℕ)
first_differing os = first_import (differs os) os

-- what objects are refused for
unfoldable pub refusal : List Contents → Option Refusal
refusal os = or_else (option_map twice (name_again os))
    (or_else (option_map missing (first_missing os)) (option_map key_differs (first_differing os)))

-- nothing is refused, and the program is these objects in their running order
pub record AreLinkedTo (os program : List Contents) : Type 0 where
  pub accepted : refusal os ≡ None
  pub order : List ℕ
  pub runs : IsRunningOrder os order
  pub program_is : program ≡ picked os order
