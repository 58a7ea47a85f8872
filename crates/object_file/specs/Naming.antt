-- Which object has a name.
use Rattle.std.specs.Prelude.{ℕ, List, [], ◌∷◌, ◌++◌, Option, Some, None, if◌then◌else◌, is_some}
use Rattle.std.specs.List.{position_from}
use Rattle.std.specs.Str.{bytes_eq}
use Rattle.object_file.specs.Contents.{Contents}

-- the first object of that name
abbrev pub object_named : List Contents → List ℕ → Option ℕ
object_named os name = position_from (λ o. bytes_eq name o.name) 0 os

-- the name of the first of these objects that one before it has, where some objects stand before them
abbrev pub taken_again : (before : List Contents) → List Contents → Option (List ℕ)
taken_again before [] = None
taken_again before (o ∷ os) =
    if is_some (object_named before o.name) then Some o.name else taken_again (before ++ o ∷ []) os

-- the name of the first object whose name one before it has
abbrev pub name_again : List Contents → Option (List ℕ)
name_again os = taken_again [] os
