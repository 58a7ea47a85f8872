-- The order in which the bodies of objects run: that of a walk from the first object, each after the objects of its
-- imports in their order, and none twice. An object is marked when the walk comes to it, so a circle of imports ends
-- there. Objects to which the walk doesn't come don't run.
use Rattle.std.specs.Prelude.{◌≡◌, ℕ, Bool, true, false, List, [], ◌∷◌, ◌++◌, Option, Some, None, if◌then◌else◌}
use Rattle.std.specs.Prelude.{length, replicate, slice_get}
use Rattle.std.specs.List.{slice_set, flat_map}
use Rattle.std.specs.Option.{option_to_list}
use Rattle.std.specs.Str.{bytes_eq}
use Rattle.code_form.specs.Modules.{Import}
use Rattle.object_file.specs.Contents.{Contents, definitions_of}
use Rattle.object_file.specs.Naming.{object_named}
use Rattle.object_file.specs.Programs.{in_out}

-- the object of an import, if it is one of these; InOut is the machine's own
abbrev pub object_of : List Contents → Import → Option ℕ
object_of os i = if bytes_eq i.name in_out.name then None else object_named os i.name

-- the objects of imports, in their order
abbrev pub objects_of : List Contents → List Import → List ℕ
objects_of os is = flat_map (λ i. option_to_list (object_of os i)) is

-- A walk to objects, one after another: the marks before it and after it, and the objects in the order in which the
-- walk leaves them, each of them behind those to which its imports lead.
pub data Walks (os : List Contents) : (marks : List Bool) → List ℕ → (after : List Bool) → (order : List ℕ)
    → Type 0 where
  over : (marks : List Bool) → Walks os marks [] marks []
  passes : (marks : List Bool) (k : ℕ) (ks : List ℕ) (after : List Bool) (order : List ℕ)
      → slice_get marks k ≡ Some true → Walks os marks ks after order → Walks os marks (k ∷ ks) after order
  enters : (marks : List Bool) (k : ℕ) (ks : List ℕ) (o : Contents) (mid after : List Bool) (first others : List ℕ)
      → slice_get marks k ≡ Some false → slice_get os k ≡ Some o
      → Walks os (slice_set marks k true) (objects_of os (definitions_of o)) mid first → Walks os mid ks after others
      → Walks os marks (k ∷ ks) after (first ++ k ∷ others)

-- the running order of objects, the first of which is the main module's
abbrev pub IsRunningOrder : List Contents → List ℕ → Type 0
IsRunningOrder os order = (after : List Bool) × Walks os (replicate (length os) false) (0 ∷ []) after order

-- the objects with these numbers
abbrev pub picked : List Contents → List ℕ → List Contents
picked os ks = flat_map (λ k. option_to_list (slice_get os k)) ks
