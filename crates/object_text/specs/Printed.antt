-- What printing an object leaves.
use Rattle.std.specs.Prelude.{◌≡◌, ℕ, List, Option}
use Rattle.m2_io.specs.Written.{with_bytes, WritesPart}
use Rattle.object_file.specs.Contents.{Contents}
use Rattle.object_text.specs.Text.{IsText}

-- its text was written
pub record Prints (o : Contents) (old new : Option (List ℕ)) : Type 0 where
  pub text : List ℕ
  pub is : IsText o text
  pub written : new ≡ with_bytes old text

-- a front of its text was written
pub record PrintsPart (o : Contents) (old new : Option (List ℕ)) : Type 0 where
  pub text : List ℕ
  pub is : IsText o text
  pub written : WritesPart old text new
