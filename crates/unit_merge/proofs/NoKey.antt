-- The key of a module that has no definition has 32 zeros.
use Rattle.std.specs.Prelude.{◌≡◌, replicate}
use Rattle.std.proofs.Common.{refl}
use Rattle.object_file.specs.Contents.{no_key}

pub zeros : replicate 32 0 ≡ no_key
unfolding no_key
zeros = refl
