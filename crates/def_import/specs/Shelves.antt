-- Where the texts of a unit come from.
use Rattle.std.specs.Prelude.{◌≡◌, ℕ, ◌==◌, ◌+◌, Bool, true, false, List, [], ◌++◌, Option, Some, None}
use Rattle.std.specs.Prelude.{codes, option_map, slice_index_or, take}
use Rattle.std.specs.FinMap.{get}
use Rattle.m2_io.specs.Files.{Files}
use Rattle.m2_base.specs.declared.limits.TheConstants.{MOST_TEXT_BYTES}
use Rattle.def_import.specs.Library.{library_name, library_text}

-- the file of the main text, and that of a definition module
abbrev pub main_file : List ℕ → List ℕ
main_file name = name ++ codes ".mod"

abbrev pub definition_file : List ℕ → List ℕ
definition_file name = name ++ codes ".def"

-- this is what the shelf has under that name, where it tells what it holds
abbrev pub Has : Option Files → List ℕ → Option (List ℕ) → Type 0
Has None file text = Unit {0}
Has (Some files) file text = get files file ≡ text

-- this is the text of the definition module with that name: the library's is always the same, and all others are the
-- shelf's
abbrev pub HasDefinitionOf : (library : Bool) → Option Files → List ℕ → Option (List ℕ) → Type 0
HasDefinitionOf true holds name text = text ≡ Some library_text
HasDefinitionOf false holds name text = Has holds (definition_file name) text

abbrev pub HasDefinition : Option Files → (names : List (List ℕ)) → (name : ℕ) → Option (List ℕ) → Type 0
HasDefinition holds names name text = HasDefinitionOf (name == library_name) holds (slice_index_or names name []) text

-- These bytes are what is read of a text: as many as a text may have, and one more.
pub record IsReadOf (IsText : Option (List ℕ) → Type 0) (bytes : Option (List ℕ)) : Type 0 where
  pub text : Option (List ℕ)
  pub is : IsText text
  pub front : bytes ≡ option_map (take (MOST_TEXT_BYTES + 1)) text
