use Rattle.std.proofs.Common.{◌≡◌, ◌∙◌, ap, refl}
use Rattle.sha2.specs.Sha256.{sha256}
use Rattle.m2_link.specs.Keys.{key_bytes, in_out_key}
use Rattle.m2_link.specs.declared.in_out.TheConstants.{KEY_BYTES}
use Rattle.m2_link.proofs.in_out.in_out_key.Goals as goal

bytes_are : KEY_BYTES.now ≡ key_bytes
unfolding key_bytes
bytes_are = refl

pub returns : goal.returns
unfolding in_out_key
returns c = c.digest.ensures ∙ ap sha256 bytes_are
