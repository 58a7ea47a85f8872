-- What compiling leaves, over files that are told.
use Rattle.std.proofs.Common.{◌≡◌, ℕ, List, Some, refl}
use Rattle.std.specs.FinMap.{insert}
use Rattle.m2_io.specs.Files.{Files}
use Rattle.object_file.specs.Contents.{object_bytes}
use Rattle.module_outcome.specs.Outcome.{Compiles, Outcome, as_decided}
use Rattle.module_outcome.specs.Verdicts.{Decision, files_after, limited, listed, no_text, object, object_name}

after_told : (files : Files) (name : List ℕ) (d : Decision) → (after : Files) × (files_after name d (Some files) ≡ Some after)
after_told files name no_text = (files, refl)
after_told files name (limited limit) = (files, refl)
after_told files name (listed unit diags) = (files, refl)
after_told files name (object contents) = (insert files (object_name name) (object_bytes contents), refl)

-- the files are told afterwards too
pub files_told : (files : Files) (name : List ℕ) (o : Outcome) → Compiles (Some files) name o → (after : Files) × (o.files ≡ Some after)
files_told files name _ (as_decided d decides) = after_told files name d
