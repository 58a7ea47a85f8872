-- The objects of a program, breadth first: which modules the objects read so far import,
-- and which of them is asked for next.
use Rattle.std.specs.Prelude.{◌≡◌, ℕ, ◌+◌, List, [], ◌∷◌, ◌++◌, Option, String, if◌then◌else◌, map, slice_get}
use Rattle.std.specs.Prelude.{string_bytes}
use Rattle.std.specs.BTreeSet.{BTreeSet, contains_text}
use Rattle.std.specs.Global.{Global}
use Rattle.std.specs.List.{list_any}
use Rattle.std.specs.Str.{bytes_eq}
use Rattle.m2_base.specs.Names.{with_names}
use Rattle.object_file.specs.Contents.{Contents, KeyedImport}
use Rattle.object_file.specs.Programs.{in_out}

-- How far the objects of a program are read: the modules that are named so far, each once, in the order in which they
-- are named first; the objects in the order in which they were found; and how many of the modules were asked for.
pub record Progress : Type 0 where
  pub names : List (List ℕ)
  pub objects : List Contents
  pub asked : ℕ

-- nothing is read yet, and the main module is named
abbrev pub start : (main : List ℕ) → Progress
start main = record { names = main ∷ []; objects = []; asked = 0 }

-- the module that is asked for next: the first that is named and wasn't asked for yet
abbrev pub next_module : Progress → Option (List ℕ)
next_module p = slice_get p.names p.asked

-- the modules that are imported; InOut is the machine's own
abbrev pub modules_in : List KeyedImport → List (List ℕ)
modules_in [] = []
modules_in (i ∷ is) =
    if bytes_eq i.definition.name in_out.name then modules_in is else i.definition.name ∷ modules_in is

-- a module was asked for, and has no object
abbrev pub passed : Progress → Progress
passed p = record { names = p.names; objects = p.objects; asked = p.asked + 1 }

-- a module was asked for, and this is its object
abbrev pub longer : Progress → Contents → Progress
longer p o =
    record { names = with_names p.names (modules_in o.imports); objects = p.objects ++ o ∷ []; asked = p.asked + 1 }

-- ** What the code has beside it

abbrev pub texts_of : List (String Global) → List (List ℕ)
texts_of names = map string_bytes names

-- the set has these names and no other
abbrev pub AreKnown : BTreeSet (String Global) → List (List ℕ) → Type 0
AreKnown known names = (name : List ℕ) → contains_text known name ≡ list_any (bytes_eq name) names
