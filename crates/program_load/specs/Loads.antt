-- What loading the program of a module comes to: its objects in running order, or the first thing that stands against
-- it. The objects are read one after another, and each is asked for its limits before what its bytes say;
-- only then are all of them linked.
use Rattle.std.specs.Prelude.{◌≡◌, ◌≢◌, ℕ, ◌<◌, ◌≤◌, List, [], Option, Some, None, length}
use Rattle.m2_io.specs.Files.{Files}
use Rattle.object_file.specs.Contents.{Contents}
use Rattle.object_file.specs.Validity.{IsObject, IsBadAt}
use Rattle.m2_link.specs.Refusals.{AreLinkedTo, Refusal, refusal}
use Rattle.program_load.specs.Closure.{Progress, longer, next_module, passed, start}
use Rattle.program_load.specs.Shelves.{HasObject}
use Rattle.program_load.specs.declared.limits.TheConstants.{MOST_OBJECT_BYTES, MOST_OBJECTS}

-- a limit that is passed
pub data Limit : Type 0 where
  object_bytes : Limit
  objects : Limit

-- why there is no program
pub data Failure : Type 0 where
  -- the main module has no object
  no_object : Failure
  limited : Limit → Failure
  -- the object of that module is broken at a place, where this is wrong
  broken : (name : List ℕ) → (offset code : ℕ) → Failure
  -- the objects don't fit together
  refused : Refusal → Failure

pub data Loading : Type 0 where
  -- the objects of the program, in running order
  linked : List Contents → Loading
  fails : Failure → Loading

-- These bytes are read as an object, and it is one more.
pub record Reads (p : Progress) (bytes : List ℕ) (q : Progress) : Type 0 where
  pub few : length p.objects < MOST_OBJECTS
  pub short : length bytes ≤ MOST_OBJECT_BYTES
  pub object : Contents
  pub is : IsObject bytes object
  pub longer : q ≡ longer p object

-- A module is asked for. Only the main module must have an object.
pub data Asks (holds : Option Files) (p : Progress) (name : List ℕ) : Progress → Type 0 where
  not_there : p.objects ≢ [] → HasObject holds name None → Asks holds p name (passed p)
  is_there : {bytes : List ℕ} {q : Progress} → HasObject holds name (Some bytes) → Reads p bytes q
      → Asks holds p name q

-- These bytes are no object, or too many.
pub data Spoils (name bytes : List ℕ) : Failure → Type 0 where
  too_long : MOST_OBJECT_BYTES < length bytes → Spoils name bytes (limited object_bytes)
  bad : {offset code : ℕ} → length bytes ≤ MOST_OBJECT_BYTES → IsBadAt bytes offset code
      → Spoils name bytes (broken name offset code)

-- The next object has these bytes, and loading ends there.
pub data Blocks (p : Progress) (name bytes : List ℕ) : Failure → Type 0 where
  too_many : MOST_OBJECTS ≤ length p.objects → Blocks p name bytes (limited objects)
  spoilt : {failure : Failure} → length p.objects < MOST_OBJECTS → Spoils name bytes failure
      → Blocks p name bytes failure

-- A module is asked for, and loading ends there.
pub data Stops (holds : Option Files) (p : Progress) (name : List ℕ) : Failure → Type 0 where
  nothing : p.objects ≡ [] → HasObject holds name None → Stops holds p name no_object
  at_object : {bytes : List ℕ} {failure : Failure} → HasObject holds name (Some bytes) → Blocks p name bytes failure
      → Stops holds p name failure

-- The objects can be read so far, one module after another.
pub data Reaches (holds : Option Files) (main : List ℕ) : Progress → Type 0 where
  begins : Reaches holds main (start main)
  then_asks : {p q : Progress} {name : List ℕ} → Reaches holds main p → next_module p ≡ Some name → Asks holds p name q
      → Reaches holds main q

-- What loading the program of a module comes to.
pub data Loads (holds : Option Files) (main : List ℕ) : Loading → Type 0 where
  stops : {p : Progress} {name : List ℕ} {failure : Failure} → Reaches holds main p → next_module p ≡ Some name
      → Stops holds p name failure
      → Loads holds main (fails failure)
  refuses : {p : Progress} {r : Refusal} → Reaches holds main p → next_module p ≡ None → refusal p.objects ≡ Some r
      → Loads holds main (fails (refused r))
  links : {p : Progress} {program : List Contents} → Reaches holds main p → next_module p ≡ None
      → AreLinkedTo p.objects program
      → Loads holds main (linked program)

-- ** A single object

-- The shelf has this object of a module, within the limits of its bytes.
pub record Finds (holds : Option Files) (name : List ℕ) (object : Contents) : Type 0 where
  pub bytes : List ℕ
  pub has : HasObject holds name (Some bytes)
  pub short : length bytes ≤ MOST_OBJECT_BYTES
  pub is : IsObject bytes object
