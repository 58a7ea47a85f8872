-- What gathering the texts of a unit comes to: the texts with what is wrong with their imports, or the first limit
-- that they pass. The texts are read in their order, and at each the limits are tried in the
-- order in which they stand here.
use Rattle.std.specs.Prelude.{◌≡◌, ℕ, ◌+◌, ◌<◌, ◌≤◌, Bool, true, false, List, [], ◌∷◌, ◌++◌, Option, Some, None}
use Rattle.std.specs.Prelude.{length, map, slice_index}
use Rattle.m2_io.specs.Files.{Files}
use Rattle.m2_base.specs.Fronts.{IsFront}
use Rattle.m2_base.specs.Names.{number_in, standard_names, with_name}
use Rattle.m2_base.specs.Tokens.{AreTokens}
use Rattle.m2_base.specs.Units.{UnitTexts, unit_of}
use Rattle.m2_base.specs.declared.limits.TheConstants.{MOST_TEXT_BYTES, MOST_TEXTS, MOST_TOKENS, MOST_UNIT_TOKENS}
use Rattle.m2_base.specs.declared.notes.Diag.{Diag}
use Rattle.m2_base.specs.declared.trees.Ident.{Ident}
use Rattle.m2_lex.specs.Faults.{HasTooMany}
use Rattle.def_import.specs.Closure.{Found, Progress, answered, longer, modules_named, next_module, own_name}
use Rattle.def_import.specs.Closure.{progress_of, text_of_module, tokens_in}
use Rattle.def_import.specs.Dependencies.{dependency_order}
use Rattle.def_import.specs.Shelves.{Has, HasDefinition, main_file}
use Rattle.def_import.specs.Wrongs.{wrongs_of}

-- a limit that is passed
pub data Limit : Type 0 where
  too_long : Limit
  too_many_tokens : Limit
  too_many_unit_tokens : Limit
  too_many_texts : Limit

-- These bytes are read as a text of that name, whose names are numbered on from the old ones: its tokens, and its
-- front.
pub record IsRead (old : List (List ℕ)) (definition : Bool) (name : ℕ) (text_bytes : List ℕ)
    (new : List (List ℕ)) (f : Found) : Type 0 where
  pub bytes : (i : ℕ) → slice_index text_bytes i < 256
  pub short : length text_bytes ≤ MOST_TEXT_BYTES
  pub tokens : AreTokens old new text_bytes f.text.tokens
  pub few : length f.text.tokens ≤ MOST_TOKENS
  pub text : f.text ≡ record { name = name; definition = definition; tokens = f.text.tokens }
  pub front : IsFront definition f.text.tokens f.front

-- There is room for the text in the unit.
pub record Fits (found : List Found) (f : Found) : Type 0 where
  pub tokens : tokens_in found + length f.text.tokens ≤ MOST_UNIT_TOKENS
  pub texts : length (modules_named (found ++ f ∷ [])) < MOST_TEXTS

-- The first limit that a text of these bytes passes, behind those that are found so far.
pub data Passes (names : List (List ℕ)) (found : List Found) (definition : Bool) (name : ℕ) (bytes : List ℕ)
    : Limit → Type 0 where
  long : MOST_TEXT_BYTES < length bytes → Passes names found definition name bytes too_long
  of_tokens : length bytes ≤ MOST_TEXT_BYTES → HasTooMany bytes
      → Passes names found definition name bytes too_many_tokens
  of_unit : {new : List (List ℕ)} {f : Found} → IsRead names definition name bytes new f
      → MOST_UNIT_TOKENS < tokens_in found + length f.text.tokens
      → Passes names found definition name bytes too_many_unit_tokens
  of_texts : {new : List (List ℕ)} {f : Found} → IsRead names definition name bytes new f
      → tokens_in found + length f.text.tokens ≤ MOST_UNIT_TOKENS
      → MOST_TEXTS ≤ length (modules_named (found ++ f ∷ [])) → Passes names found definition name bytes too_many_texts

-- A text of these bytes is read.
pub record Reads (p : Progress) (definition : Bool) (name : ℕ) (bytes : List ℕ) (q : Progress) : Type 0 where
  pub names : List (List ℕ)
  pub found : Found
  pub read : IsRead p.names definition name bytes names found
  pub fits : Fits p.found found
  pub longer : q ≡ longer p names found

-- nothing is read yet: the names are those of every unit and the file's
abbrev pub begun : List ℕ → Progress
begun file = progress_of (with_name standard_names file) [] []

-- A module is asked for, and its text is read, if there is one.
pub data Asks (holds : Option Files) (p : Progress) (name : ℕ) : Progress → Type 0 where
  not_there : HasDefinition holds p.names name None → Asks holds p name (answered p None)
  is_there : {bytes : List ℕ} {q : Progress} → HasDefinition holds p.names name (Some bytes)
      → Reads (answered p (Some (length p.found))) true name bytes q → Asks holds p name q

-- The texts of the unit can be read so far: the main text, and then one module after another.
pub data Reaches (holds : Option Files) (file main : List ℕ) : Progress → Type 0 where
  main_read : {number : ℕ} {p : Progress} → number_in (with_name standard_names file) file ≡ Some number
      → Reads (begun file) false number main p
      → Reaches holds file main p
  then_asks : {p q : Progress} {name : ℕ} → Reaches holds file main p → next_module p ≡ Some name → Asks holds p name q
      → Reaches holds file main q

-- the text of the own definition that is told, if it is there
abbrev pub text_told : Progress → Option Ident → Option ℕ
text_told p None = None
text_told p (Some i) = text_of_module p i.name

abbrev pub own_text : Progress → List Found → Option ℕ
own_text p [] = None
own_text p (main ∷ found) = text_told p (own_name main.front)

-- the unit of the texts that are read
abbrev pub unit_in : Progress → UnitTexts
unit_in p = unit_of p.names (map (λ f. f.text) p.found) (dependency_order p) (own_text p p.found)

-- All texts are read, and this is the unit with what is wrong with its imports.
pub record IsGathered (holds : Option Files) (file main : List ℕ) (unit : UnitTexts)
    (wrongs : List Diag) : Type 0 where
  pub progress : Progress
  pub reached : Reaches holds file main progress
  pub all : next_module progress ≡ None
  pub texts : unit ≡ unit_in progress
  pub wrong : wrongs ≡ wrongs_of progress

-- The text of a module that is asked for passes this limit.
pub record AskPasses (holds : Option Files) (p : Progress) (name : ℕ) (limit : Limit) : Type 0 where
  pub bytes : List ℕ
  pub has : HasDefinition holds p.names name (Some bytes)
  pub passes : Passes p.names p.found true name bytes limit

-- A text passes this limit, the first that is passed.
pub data Stops (holds : Option Files) (file main : List ℕ) (limit : Limit) : Type 0 where
  at_main : {number : ℕ} → number_in (with_name standard_names file) file ≡ Some number
      → Passes (with_name standard_names file) [] false number main limit
      → Stops holds file main limit
  at_module : {p : Progress} {name : ℕ} → Reaches holds file main p → next_module p ≡ Some name
      → AskPasses holds p name limit
      → Stops holds file main limit

-- The same of the main text that the shelf has.
pub record IsGatheredFrom (holds : Option Files) (file : List ℕ) (unit : UnitTexts) (wrongs : List Diag) : Type 0 where
  pub main : List ℕ
  pub had : Has holds (main_file file) (Some main)
  pub gathered : IsGathered holds file main unit wrongs

pub record StopsFrom (holds : Option Files) (file : List ℕ) (limit : Limit) : Type 0 where
  pub main : List ℕ
  pub had : Has holds (main_file file) (Some main)
  pub stops : Stops holds file main limit

-- ** What gathering comes to

pub data Outcome : Type 0 where
  unit_with : UnitTexts → (wrongs : List Diag) → Outcome
  stopped_at : Limit → Outcome
  nothing : Outcome

-- of a main text that is given
pub data ComesOf (holds : Option Files) (file main : List ℕ) : Outcome → Type 0 where
  of_all : {unit : UnitTexts} {wrongs : List Diag} → IsGathered holds file main unit wrongs
      → ComesOf holds file main (unit_with unit wrongs)
  of_limit : {limit : Limit} → Stops holds file main limit → ComesOf holds file main (stopped_at limit)

-- of the shelf's
pub data ComesFrom (holds : Option Files) (file : List ℕ) : Outcome → Type 0 where
  from_text : {main : List ℕ} {outcome : Outcome} → Has holds (main_file file) (Some main)
      → ComesOf holds file main outcome → ComesFrom holds file outcome
  from_nothing : Has holds (main_file file) None → ComesFrom holds file nothing
