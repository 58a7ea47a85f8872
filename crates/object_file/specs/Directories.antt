-- A directory of objects, as the code keeps it.
use Rattle.std.specs.Prelude.{◌≡◌, ℕ, List, Option, Some, slice_get, None, if◌then◌else◌}
use Rattle.std.specs.Str.{bytes_eq}
use Rattle.std.specs.Cmp.Lexicographic.{slice_cmp}
use Rattle.std.specs.Ordering.{nat_cmp}
use Rattle.std.specs.BTreeMap.{get_by}
use Rattle.object_file.specs.declared.directory.Directory.{Directory}
use Rattle.object_file.specs.declared.directory.DirectoryFault.{DirectoryFault}
use Rattle.object_file.specs.declared.directory.DirectoryFault.TheVariants as faults
use Rattle.code_form.specs.Modules.{Import}
use Rattle.object_file.specs.Contents.{Contents}
use Rattle.object_file.specs.Programs.{in_out}
use Rattle.object_file.specs.Naming.{name_again, object_named}

-- what is kept under a name
abbrev pub found_in : Directory → List ℕ → Option ℕ
found_in d name = get_by (λ k. slice_cmp nat_cmp name k.now) d.places

-- it has the number of each object under its name, and nothing else
abbrev pub IsDirectory : Directory → List Contents → Type 0
IsDirectory d os = (name : List ℕ) → found_in d name ≡ object_named os name

-- the object whose name one before it has
abbrev pub IsTwice : DirectoryFault → List Contents → Type 0
IsTwice (faults.Twice k) os = (o : Contents) × (slice_get os k ≡ Some o) × (name_again os ≡ Some o.name)
IsTwice faults.Memory os = Unit {0}

-- the object of an import
abbrev pub object_in : Directory → Import → Option ℕ
object_in d i = if bytes_eq i.name in_out.name then None else found_in d i.name
