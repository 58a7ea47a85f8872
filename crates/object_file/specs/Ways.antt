-- A walk over objects, as the code makes it: what is left of it at each step.
use Rattle.std.specs.Prelude.{◌≡◌, ◌<◌, ◌+◌, ◌-◌, ℕ, Bool, true, false, List, [], ◌∷◌, ◌++◌, Option, Some, None}
use Rattle.std.specs.Prelude.{length, drop, slice_get, slice_set, reverse}
use Rattle.std.specs.List.{AllByRecursion}
use Rattle.code_form.specs.Modules.{Import}
use Rattle.object_file.specs.Contents.{Contents, definitions_of}
use Rattle.object_file.specs.Running.{Walks, objects_of}
use Rattle.object_file.specs.declared.running.Frame.{Frame}
use Rattle.object_file.specs.declared.running.Walk.{Walk}

-- it came to an object, unless it did before
pub data Enters (k : ℕ) (w v : Walk) : Type 0 where
  was_there : slice_get w.marks.items k ≡ Some true → v.marks.items ≡ w.marks.items → v.way.items ≡ w.way.items
      → v.order.items ≡ w.order.items → Enters k w v
  is_new : slice_get w.marks.items k ≡ Some false → v.marks.items ≡ slice_set w.marks.items k true → v.way.items
      ≡ w.way.items ++ record { object = k; next = 0 } ∷ [] → v.order.items ≡ w.order.items → Enters k w v

-- the imports of an object
abbrev pub imports_in : Option Contents → List Import
imports_in None = []
imports_in (Some o) = definitions_of o

-- the import that is followed next
abbrev pub followed : List Contents → Frame → Option Import
followed os f = slice_get (imports_in (slice_get os f.object)) f.next

-- those that are followed from it on
abbrev pub imports_from : List Contents → Frame → List Import
imports_from os f = drop f.next (imports_in (slice_get os f.object))

-- What is left of a walk on its way, the innermost object first: it follows the imports of that, leaves it, and goes
-- on in the one around it.
abbrev pub Leaves : (os : List Contents) → (way : List Frame) → (marks after : List Bool) → (rest : List ℕ) → Type 0
Leaves os [] marks after rest = (after ≡ marks) × (rest ≡ [])
Leaves os (f ∷ fs) marks after rest =
    (mid : List Bool) × (first : List ℕ) × (others : List ℕ) × Walks os marks
    (objects_of os (imports_from os f)) mid first × Leaves os fs mid after others × (rest ≡ first ++ f.object ∷ others)

-- there are marks for all objects, and all on the way are objects
pub record IsOn (os : List Contents) (w : Walk) : Type 0 where
  pub marks : length w.marks.items ≡ length os
  pub way : AllByRecursion (λ f. f.object < length os) w.way.items

-- how many steps are left: two at each object that isn't marked and one at each of its imports, and those of the way
abbrev pub to_enter : List Contents → List Bool → ℕ
to_enter [] marks = 0
to_enter (o ∷ os) [] = 0
to_enter (o ∷ os) (true ∷ marks) = to_enter os marks
to_enter (o ∷ os) (false ∷ marks) = length (definitions_of o) + 2 + to_enter os marks

abbrev pub frame_steps : List Contents → Frame → ℕ
frame_steps os f = length (imports_from os f) + 1

abbrev pub to_leave : List Contents → List Frame → ℕ
to_leave os [] = 0
to_leave os (f ∷ fs) = frame_steps os f + to_leave os fs

abbrev pub steps_left : List Contents → Walk → ℕ
steps_left os w = to_enter os w.marks.items + to_leave os w.way.items

-- one step from an object on the way
pub record Steps (os : List Contents) (f : Frame) (w v : Walk) : Type 0 where
  pub on : IsOn os v
  pub fewer : steps_left os v < steps_left os w + frame_steps os f
  pub leads : (after : List Bool) (rest : List ℕ) → Leaves os (reverse v.way.items) v.marks.items after rest
      → (r : List ℕ) × Leaves os (f ∷ reverse w.way.items) w.marks.items after r
      × (w.order.items ++ r ≡ v.order.items ++ rest)
