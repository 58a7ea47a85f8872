-- Where the objects of a program come from.
use Rattle.std.specs.Prelude.{◌≡◌, ℕ, ◌+◌, List, ◌++◌, Option, Some, None, codes, option_map, take}
use Rattle.std.specs.FinMap.{get}
use Rattle.m2_io.specs.Files.{Files}
use Rattle.program_load.specs.declared.limits.TheConstants.{MOST_OBJECT_BYTES}

-- the file of a module's object
abbrev pub object_file : List ℕ → List ℕ
object_file name = name ++ codes ".m2o"

-- this is what the shelf has under that name, where it tells what it holds
abbrev pub Has : Option Files → List ℕ → Option (List ℕ) → Type 0
Has None file bytes = Unit {0}
Has (Some files) file bytes = get files file ≡ bytes

-- these bytes are what the shelf has as the object of that module
abbrev pub HasObject : Option Files → (name : List ℕ) → Option (List ℕ) → Type 0
HasObject holds name bytes = Has holds (object_file name) bytes

-- These bytes are what is read of an object: as many as an object may have, and one more.
pub record IsReadOf (holds : Option Files) (name : List ℕ) (bytes : Option (List ℕ)) : Type 0 where
  pub whole : Option (List ℕ)
  pub has : HasObject holds name whole
  pub front : bytes ≡ option_map (take (MOST_OBJECT_BYTES + 1)) whole
