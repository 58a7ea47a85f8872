-- Which names a folder's files may have.
use Rattle.std.specs.Prelude.{◌≢◌, ℕ, List, [], Some, Contains, slice_get}

-- A name that can't lead out of the folder: it isn't empty, begins with no dot (46), and has no slash
-- (47) and no zero byte.
pub record IsPlainName (name : List ℕ) : Type 0 where
  pub some : name ≢ []
  pub shown : slice_get name 0 ≢ Some 46
  pub no_slash : ¬ Contains name 47
  pub no_zero : ¬ Contains name 0
