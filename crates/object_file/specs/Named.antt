-- A set of names beside the imports that have them.
use Rattle.std.specs.Prelude.{◌≡◌, ℕ, Bool, List}
use Rattle.std.specs.List.{list_any}
use Rattle.std.specs.Cmp.Lexicographic.{slice_cmp}
use Rattle.std.specs.Global.{Vec}
use Rattle.std.specs.Ordering.{nat_cmp}
use Rattle.std.specs.BTreeMap.{is_at}
use Rattle.std.specs.Str.{bytes_eq}
use Rattle.object_file.specs.Contents.{KeyedImport}

-- the key is this name
abbrev pub is_named : List ℕ → Vec ℕ → Bool
is_named name key = is_at (λ k. slice_cmp nat_cmp name k.items) key

-- the keys are the names of the imports
abbrev pub AreNames : List (Vec ℕ) → List KeyedImport → Type 0
AreNames keys imports =
    (name : List ℕ) → list_any (is_named name) keys ≡ list_any (λ i. bytes_eq name i.definition.name) imports
